-- phi of a shift is no further from 0 than the shift and the divisor.
use Rattle.std.proofs.Common.{◌≡◌, pos, neg_ℤ, ◌-ℤ◌, to_z, of_z, arith}
use Rattle.std.proofs.lemmas.Int.{ints}
use Rattle.derived_rows.proofs.Bounds.{phi_small}
use Rattle.derived_rows.proofs.limits.start.Goals as goal
use mir.Syntax.{w128}

pub returns-clause-small : goal.returns-clause-small
returns-clause-small c =
    let d = c.args.derived.now.divisor in
    let r = c.args.derived.now.rest in
    let n : to_z w128 (of_z w128 (pos 0 -ℤ to_z w128 (of_z w128 c.from.result))) ≡ neg_ℤ c.args.group.now.shift = omega (arith, ints, c.from.ensures, c.requires.small) in
    omega (arith, ints, c.phi.ensures.value, phi_small d r c.requires.rounding (to_z w128 (of_z w128 (pos 0 -ℤ to_z w128 (of_z w128 c.from.result)))), n, c.requires.small)
