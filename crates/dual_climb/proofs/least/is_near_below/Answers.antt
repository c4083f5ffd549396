-- The first step down bounds how far the next ones fall.
use Rattle.std.proofs.Common.{◌≡◌, ◌-◌, ◌^◌, true, ℤ, pos, ◌*ℤ◌, ◌<ℤ◌, subst, ◌-ℤ◌, ◌≤ℤ◌, to_z, of_z, unsigned_abs, ◌≤◌, arith}
use mir.Syntax.{w128}
use Rattle.std.specs.Int.RustNames.{int_le}
use Rattle.std.proofs.lemmas.Int.{ints}
use Rattle.row_kit.specs.Area.{present}
use Rattle.dual_climb.specs.laws.Along.{part_along}
use Rattle.dual_climb.proofs.Convex.{near_down, part_convex}
use Rattle.dual_climb.proofs.Steps.{exact}
use Rattle.dual_climb.proofs.least.is_near_below.Goals as goal

pub returns-then-end-eq0 : goal.returns-then-end-eq0
returns-then-end-eq0 c = λ t f le.
    let h = part_along c.args.gains.now.lines.items (present c.args.area.now) c.args.row.now c.args.own in
    near_down h (part_convex c.args.gains.now.lines.items (present c.args.area.now) c.args.row.now c.args.own) c.args.own c.steps.result (c.args.own - c.min.result) c.args.least_fall c.fall_to-first.result
    (omega (arith, c.if-own-eq0.false)) c.fall_to-first.ensures.value (subst (λ (x : ℤ). (pos c.steps.result *ℤ x) <ℤ pos c.args.least_fall) (exact c.fall_to-first.result c.fall_to-first.ensures.small) c.steps.ensures) c.requires.some (omega arith) (omega (arith, c.min.ensures)) (λ lt. absurd (omega (arith, c.if-end-eq0.true))) f le

not_more : (x y : ℤ) → unsigned_abs x ≤ 2 ^ 118 → unsigned_abs y ≤ 2 ^ 118 → int_le (to_z w128 (of_z w128 x)) (to_z w128 (of_z w128 y)) ≡ true → x ≤ℤ y
not_more x y h k e = omega (arith, ints, h, k, e)

by_falls : (o e b x y : ℤ) → x ≡ o -ℤ b → y ≡ o -ℤ e → x ≤ℤ y → e ≤ℤ b
by_falls o e b x y p q h = omega (arith, ints)

pub returns-else-end-eq0 : goal.returns-else-end-eq0
returns-else-end-eq0 c = λ t f le.
    let h = part_along c.args.gains.now.lines.items (present c.args.area.now) c.args.row.now c.args.own in
    let end = c.args.own - c.min.result in
    near_down h (part_convex c.args.gains.now.lines.items (present c.args.area.now) c.args.row.now c.args.own) c.args.own c.steps.result end c.args.least_fall c.fall_to-first.result
    (omega (arith, c.if-own-eq0.false)) c.fall_to-first.ensures.value (subst (λ (x : ℤ). (pos c.steps.result *ℤ x) <ℤ pos c.args.least_fall) (exact c.fall_to-first.result c.fall_to-first.ensures.small) c.steps.ensures) c.requires.some (omega arith) (omega (arith, c.min.ensures))
    (λ _. by_falls (h c.args.own) (h end) (h (end - 1)) c.fall_to.result c.fall_to-else-end-eq0.result c.fall_to.ensures.value c.fall_to-else-end-eq0.ensures.value
    (not_more c.fall_to.result c.fall_to-else-end-eq0.result c.fall_to.ensures.small c.fall_to-else-end-eq0.ensures.small t)) f le
