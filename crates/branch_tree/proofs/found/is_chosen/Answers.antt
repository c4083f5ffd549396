-- The first slots are those that points have.
use Rattle.std.proofs.Common.{◌∙◌, ap, length, take}
use Rattle.row_kit.specs.declared.program.Program.{Program}
use Rattle.row_kit.specs.Area.{present}
use Rattle.row_relax.specs.Settle.{are_single}
use Rattle.row_relax.proofs.OnlyPoints.{single_is}
use Rattle.branch_tree.proofs.found.is_chosen.Goals as goal

pub returns : goal.returns
returns c =
    let ds = present c.args.area.now in
    single_is c.first_are_single.result _ c.first_are_single.ensures
    ∙ ap are_single (c.first_slots-slots.ensures.first ∙ ap (λ (program : Program). take (length program.root) ds) c.choices_of.ensures)
