-- The loose cap is defined, bounds the worths of lawful points, and is the proof's own cap where that is defined.
use Rattle.std.proofs.Common.{sym, subst, ◌∙◌}
use Rattle.proof_tree.specs.Cap.{Bounds}
use Rattle.proof_tree.specs.Tree.{tree_of}
use Rattle.row_relax.specs.Choices.{IsLawfulIn, worth_in}
use Rattle.row_relax.specs.View.{IsIn}
use Rattle.what_if.specs.Loose.{shown}
use Rattle.what_if.proofs.Bounding.{loose_cap-bounds}
use Rattle.what_if.proofs.Same.{loose_cap-defined}
use Rattle.what_if.proofs.Within.{answers}
use Rattle.what_if.proofs.Shown.{same_marks}
use Rattle.what_if.proofs.loosening.loose.Goals as goal

pub number_of-requires : goal.number_of-requires
number_of-requires c = λ is. loose_cap-defined c.args.capped c.args.rows.now (tree_of c.args.proof.now) (shown c.args.area.now) (sym c.node_cap.ensures.cap ∙ is)

pub returns-clause-bounds : goal.returns-clause-bounds
returns-clause-bounds c =
    let rows = c.args.rows.now in
    let v = shown c.args.area.now in
    subst (Bounds (IsIn v) (IsLawfulIn rows) (worth_in rows)) (sym (c.number_of.ensures ∙ c.node_cap.ensures.cap)) (loose_cap-bounds c.args.capped rows (tree_of c.args.proof.now) v c.requires.fits)

pub returns-clause-own : goal.returns-clause-own
returns-clause-own c = λ below defined.
    let rows = c.args.rows.now in
    answers c.args.capped rows (tree_of c.args.proof.now) (shown c.args.area.now) c.number_of.result c.requires.fits below defined (c.number_of.ensures ∙ c.node_cap.ensures.cap)

pub returns-clause-same : goal.returns-clause-same
returns-clause-same c = same_marks c.args.area.now c.node_cap.new.area c.node_cap.ensures.same
