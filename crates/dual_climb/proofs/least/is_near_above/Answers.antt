-- The first step up bounds how far the next ones fall.
use Rattle.std.proofs.Common.{◌+◌, ◌^◌, ℤ, pos, ◌*ℤ◌, ◌<ℤ◌, subst, arith}
use Rattle.row_kit.specs.Area.{present}
use Rattle.dual_climb.specs.laws.Along.{part_along}
use Rattle.dual_climb.proofs.Convex.{near_up, part_convex}
use Rattle.dual_climb.proofs.Steps.{exact}
use Rattle.dual_climb.proofs.least.is_near_above.Goals as goal

pub returns-then-end-ge-MOST_FACTOR : goal.returns-then-end-ge-MOST_FACTOR
returns-then-end-ge-MOST_FACTOR c = λ _ f from le.
    let h = part_along c.args.gains.now.lines.items (present c.args.area.now) c.args.row.now c.args.own in
    near_up h (part_convex c.args.gains.now.lines.items (present c.args.area.now) c.args.row.now c.args.own) c.args.own c.steps.result (c.args.own + c.min.result) (2 ^ 40) c.args.least_fall c.fall_to-first.result
    c.fall_to-first.ensures.value (subst (λ (x : ℤ). (pos c.steps.result *ℤ x) <ℤ pos c.args.least_fall) (exact c.fall_to-first.result c.fall_to-first.ensures.small) c.steps.ensures) c.requires.some (omega arith) (omega (arith, c.min.ensures)) (λ lt. absurd (omega (arith, c.if-end-ge-MOST_FACTOR.true))) f from le

pub returns-else-end-ge-MOST_FACTOR : goal.returns-else-end-ge-MOST_FACTOR
returns-else-end-ge-MOST_FACTOR c = λ t f from le.
    let h = part_along c.args.gains.now.lines.items (present c.args.area.now) c.args.row.now c.args.own in
    near_up h (part_convex c.args.gains.now.lines.items (present c.args.area.now) c.args.row.now c.args.own) c.args.own c.steps.result (c.args.own + c.min.result) (2 ^ 40) c.args.least_fall c.fall_to-first.result
    c.fall_to-first.ensures.value (subst (λ (x : ℤ). (pos c.steps.result *ℤ x) <ℤ pos c.args.least_fall) (exact c.fall_to-first.result c.fall_to-first.ensures.small) c.steps.ensures) c.requires.some (omega arith) (omega (arith, c.min.ensures)) (λ _. c.rises.ensures.0 t) f from le
