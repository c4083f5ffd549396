-- A product of small numbers is small.
use Rattle.std.proofs.Common.{ℤ, ◌≡◌, pos, ◌*ℤ◌, to_z, of_z, ap₂, arith}
use Rattle.std.proofs.lemmas.Int.{ints}
use Rattle.derived_rows.proofs.Bounds.{times_small}
use Rattle.derived_rows.proofs.rounding.times.Goals as goal
use mir.Syntax.{w128}

exact : (c : goal.After-from) → (to_z w128 (of_z w128 c.from.result) *ℤ to_z w128 (of_z w128 c.args.number)) ≡ pos c.args.count *ℤ c.args.number
exact c =
    let a : to_z w128 (of_z w128 c.from.result) ≡ pos c.args.count = omega (arith, ints) in
    let b : to_z w128 (of_z w128 c.args.number) ≡ c.args.number = omega (arith, ints) in
    ap₂ (λ (x y : ℤ). x *ℤ y) a b

pub overflow_mul-result : goal.overflow_mul-result
overflow_mul-result c = omega (arith, ints, exact c, times_small c.args.count c.args.number (omega arith) c.requires)

pub returns-clause-value : goal.returns-clause-value
returns-clause-value c = omega (arith, ints, exact c, times_small c.args.count c.args.number (omega arith) c.requires)

pub returns-clause-small : goal.returns-clause-small
returns-clause-small c = omega (arith, ints, exact c, times_small c.args.count c.args.number (omega arith) c.requires)
