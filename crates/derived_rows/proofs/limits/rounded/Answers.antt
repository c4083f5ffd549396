-- phi of a factor fits, since it is no further from 0 than the factor and the divisor.
use Rattle.std.proofs.Common.{◌≡◌, ◌∙◌, ◌≤◌, ◌^◌, unsigned_abs, to_z, of_z, ap, arith}
use Rattle.std.proofs.lemmas.Int.{ints}
use Rattle.derived_rows.specs.Rounding.{phi}
use Rattle.derived_rows.proofs.Bounds.{phi_small}
use Rattle.derived_rows.proofs.limits.rounded.Goals as goal
use mir.Syntax.{w64, w128}

same : (c : goal.After-phi) → to_z w128 (of_z w128 c.from.result) ≡ c.args.by
same c = omega (arith, ints)

small : (c : goal.After-phi) → unsigned_abs c.phi.result ≤ 2 ^ 31
small c =
    let d = c.args.derived.now.divisor in
    let r = c.args.derived.now.rest in
    omega (arith, ints, c.phi.ensures.value, phi_small d r c.requires.rounding (to_z w128 (of_z w128 c.from.result)), same c, c.requires.divisor, c.requires.factor)

pub returns-clause-value : goal.returns-clause-value
returns-clause-value c =
    let exact : to_z w64 (of_z w64 (to_z w128 (of_z w128 c.phi.result))) ≡ c.phi.result = omega (arith, ints, small c) in
    exact ∙ c.phi.ensures.value ∙ ap (phi c.args.derived.now.divisor c.args.derived.now.rest) (same c)

pub returns-clause-small : goal.returns-clause-small
returns-clause-small c = omega (arith, ints, small c)
