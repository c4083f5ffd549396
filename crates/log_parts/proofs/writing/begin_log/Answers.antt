-- The front is held back.
use Rattle.std.proofs.Common.{◌∙◌, ◌++◌, List, ℕ, ap, subst}
use Rattle.proof_log.specs.Writer.{writing, IsWhole}
use Rattle.log_parts.specs.Heads.{front_text}
use Rattle.log_nodes.proofs.Stays.{clear_stays, cleared_stays}
use Rattle.log_parts.proofs.Writes.{has_front}
use Rattle.log_parts.proofs.writing.begin_log.Goals as goal

pub returns-in-Ok-clause-begun : goal.returns-in-Ok-clause-begun
returns-in-Ok-clause-begun g c =
    let at = writing g.F.Shelf.files g.F.Shelf.read_faults g.F.Shelf.may_read g.F.Shelf.may_write c.in-Ok.writer c.begin_with.new.files in
    has_front at (front_text c.args.version c.args.declared.now) (subst (IsWhole at) (c.as_slice.ensures.value ∙ c.in_ok-put_front.ensures ∙ ap (λ (held : List ℕ). held ++ front_text c.args.version c.args.declared.now) c.new-front.ensures.items) c.in-Ok.ensures.whole)

pub returns-in-Ok-clause-others : goal.returns-in-Ok-clause-others
returns-in-Ok-clause-others g c = cleared_stays c.args.name.now (g.F.Shelf.files c.args.files.now) (g.F.Shelf.files c.begin_with.new.files) c.in-Ok.ensures.ok

pub returns-clause-others : goal.returns-clause-others
returns-clause-others g c = clear_stays c.args.name.now (g.F.Shelf.files c.args.files.now) (g.F.Shelf.files c.begin_with.new.files) c.in-Err.ensures.err
