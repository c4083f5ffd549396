-- A head with the derivations that were read behind its setups can be declared.
use Rattle.std.proofs.Common.{arith, sym, subst}
use Rattle.row_relax.specs.Choices.{plain}
use Rattle.valid_log.specs.Verdict.{limits_of}
use Rattle.plant_check.specs.Heads.{IsFrontHeld}
use Rattle.plant_check.proofs.HeadJudged.{few_derived, held_small}
use Rattle.log_parts.specs.declared.heads.LogFront.TheVariants as head
use Rattle.log_parts.specs.declared.heads.LogHead.{LogHead}
use Rattle.log_parts.specs.laws.Checked.{IsFrontKept}
use Rattle.opened_logs.proofs.Fronts.{head_declared}
use Rattle.joined_parts.proofs.heads.read_behind.Goals as goal

pub read_tail-requires-clause-rows : goal.read_tail-requires-clause-rows
read_tail-requires-clause-rows g c = (held_small c.args.plant.now c.args.program.now c.args.depth c.args.setups c.requires.held).rows

pub limits_behind-limits-requires-clause-rows : goal.limits_behind-limits-requires-clause-rows
limits_behind-limits-requires-clause-rows g c = (held_small c.args.plant.now c.args.program.now c.args.depth c.args.setups c.requires.held).rows

pub limits_behind-limits-requires-clause-derived : goal.limits_behind-limits-requires-clause-derived
limits_behind-limits-requires-clause-derived g c =
    let held = subst (IsFrontHeld c.args.setups.limits c.args.setups.head) c.in-Whole.is c.in_ok-tail.ensures.held in
    omega (arith, few_derived c.args.plant.now c.args.program.now c.args.depth c.args.setups c.in-Whole.tail c.requires.held held)

pub returns-in_ok-head_with-in-Whole-clause-kept : goal.returns-in_ok-head_with-in-Whole-clause-kept
returns-in_ok-head_with-in-Whole-clause-kept g c =
    let held = subst (IsFrontHeld c.args.setups.limits c.args.setups.head) c.in-Whole.is c.in_ok-tail.ensures.held in
    subst (λ (own : LogHead). IsFrontKept c.args.plant.now (limits_of (plain c.args.program.now) c.args.depth) (head.Whole own)) (sym c.in_ok-head_with-in-Whole.ensures)
    (head_declared c.args.plant.now c.args.program.now c.args.depth c.args.setups c.in-Whole.tail c.requires.held c.requires.counted held)
