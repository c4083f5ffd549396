use Rattle.std.proofs.Common.{◌≡◌, subst}
use Rattle.log_lines.specs.declared.defect.Defect.{Defect}
use Rattle.sum_lines.specs.laws.Walk.{HasBadTerm}
use Rattle.sum_lines.proofs.TermLines.{term_bad}
use Rattle.sum_lines.proofs.terms.next_term.Goals as goal

pub returns-in-Err-clause-bad : goal.returns-in-Err-clause-bad
returns-in-Err-clause-bad g c defect is version lines passed =
    let files = g.F.Shelf.files c.args.files.now in
    let made : Defect = record { line = c.args.walk.now.line; kind = c.in-Err.kind } in
    let same : made ≡ defect = cc in
    subst (HasBadTerm files c.args.name.now version c.args.slots c.args.above lines) same
    (term_bad files c.args.name.now version lines c.args.walk.now c.next.new.self c.in_ok-seen.seen c.args.slots c.args.above c.in-Err.kind passed (c.in_ok-seen.ensures.seen version lines passed) c.in-Err.ensures.bad)
