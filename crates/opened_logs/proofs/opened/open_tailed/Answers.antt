-- What a head declares is shown.
use Rattle.std.proofs.Common.{◌≡◌, ℕ, sym, subst, arith}
use Rattle.stn_model.specs.Points.{depth_limit}
use Rattle.log_parts.specs.declared.heads.LogHead.{LogHead}
use Rattle.log_parts.specs.Heads.{lines_on}
use Rattle.plant_check.specs.Heads.{IsHeadHeld, IsJudged}
use Rattle.plant_check.proofs.HeadJudged.{few_derived, held_small}
use Rattle.opened_logs.proofs.Fronts.{head_declared}
use Rattle.opened_logs.proofs.opened.open_tailed.Goals as goal

pub limits_behind-limits-requires-clause-rows : goal.limits_behind-limits-requires-clause-rows
limits_behind-limits-requires-clause-rows c = (held_small c.args.plant.now c.args.program (depth_limit c.args.plant.now) c.args.setups c.requires.held).rows

pub limits_behind-limits-requires-clause-derived : goal.limits_behind-limits-requires-clause-derived
limits_behind-limits-requires-clause-derived c = omega (arith, few_derived c.args.plant.now c.args.program (depth_limit c.args.plant.now) c.args.setups c.args.tail c.requires.held c.requires.tailed)

pub judge_head-requires-clause-held : goal.judge_head-requires-clause-held
judge_head-requires-clause-held c = subst (λ (depth : ℕ). IsHeadHeld c.args.plant.now c.args.program depth c.args.setups) (sym c.depth_limit.ensures) c.requires.held

pub returns-in_ok-head_with-in-Ok-clause-over : goal.returns-in_ok-head_with-in-Ok-clause-over
returns-in_ok-head_with-in-Ok-clause-over c =
    subst (IsJudged c.args.plant.now c.args.program c.args.judged.now c.args.setups c.args.tail) c.in-Ok.is c.in_ok-rows.ensures

pub returns-in_ok-head_with-in-Ok-clause-lines : goal.returns-in_ok-head_with-in-Ok-clause-lines
returns-in_ok-head_with-in-Ok-clause-lines c =
    subst (λ (own : LogHead). own.lines ≡ lines_on own.declared) (sym c.in_ok-head_with-in-Ok.ensures) (head_declared c.args.plant.now c.args.program (depth_limit c.args.plant.now) c.args.setups c.args.tail c.requires.held c.requires.counted c.requires.tailed).lines
