-- phi is no further from 0 than its number and the divisor.
use Rattle.std.proofs.Common.{ℤ, ◌≡◌, ◌+ℤ◌, to_z, of_z, ap₂, arith}
use Rattle.std.proofs.lemmas.Int.{ints}
use Rattle.derived_rows.specs.Rounding.{phi}
use Rattle.derived_rows.proofs.Bounds.{phi_small}
use Rattle.derived_rows.proofs.rounding.phi.Goals as goal
use mir.Syntax.{w128}

pub returns-clause-small : goal.returns-clause-small
returns-clause-small c =
    let d = c.args.divisor in
    let r = c.args.rest in
    let n = to_z w128 (of_z w128 c.args.number) in
    let same : n ≡ c.args.number = omega (arith, ints) in
    let sum : c.whole_part.result +ℤ c.left_part.result ≡ phi d r n = ap₂ (λ (x y : ℤ). x +ℤ y) c.whole_part.ensures.value c.left_part.ensures.value in
    let exact : to_z w128 (of_z w128 (to_z w128 (of_z w128 c.whole_part.result) +ℤ to_z w128 (of_z w128 c.left_part.result))) ≡ c.whole_part.result +ℤ c.left_part.result = omega (arith, ints, c.whole_part.ensures.small, c.left_part.ensures.small) in
    omega (arith, ints, exact, sum, phi_small d r c.requires.rest n, same, c.requires.small, c.ranges.divisor)
