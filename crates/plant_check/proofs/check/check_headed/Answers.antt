-- What is held of the head with its setups.
use Rattle.std.proofs.Common.{ap, ◌∙◌, subst}
use Rattle.log_lines.specs.declared.grammar.Limits.{Limits}
use Rattle.valid_log.specs.Heads.{limits_with, setup_sizes}
use Rattle.plant_check.specs.Heads.{AreSetupsHeld, IsSetupsHeld}
use Rattle.plant_check.proofs.HeadJudged.{held_of}
use Rattle.plant_check.proofs.check.check_headed.Goals as goal

pub check_set_up-requires-clause-held : goal.check_set_up-requires-clause-held
check_set_up-requires-clause-held g c =
    let plant = c.args.part.plant.now in
    let head = c.args.head in
    let limits = c.limits_with-limits.ensures ∙ ap (limits_with c.args.part.program c.args.part.depth) c.len.ensures in
    held_of plant c.args.part.program c.args.part.depth head c.in-Whole.setups c.requires.kept
    (subst (λ (l : Limits). IsSetupsHeld l (setup_sizes plant) head c.in-Whole.setups) limits (subst (AreSetupsHeld c.limits_with-limits.result (setup_sizes plant) head) c.in-Whole.is c.in_ok-defect.ensures.held))
