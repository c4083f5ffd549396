-- L is the sum of its parts, which are small.
use Rattle.std.proofs.Common.{ℤ, List, ◌≡◌, ◌∙◌, ◌-ℤ◌, to_z, of_z, ap, ap₂, arith}
use Rattle.std.proofs.lemmas.Int.{ints}
use Rattle.row_kit.specs.declared.row.Row.{Row}
use Rattle.derived_rows.specs.declared.derived.Factor.{Factor}
use Rattle.derived_rows.specs.Derived.{mixed_limit}
use Rattle.derived_rows.specs.Groups.{shifts_sum, starts_sum}
use Rattle.derived_rows.specs.Rounding.{phi}
use Rattle.derived_rows.proofs.limits.whole_limit.Goals as goal
use mir.Syntax.{w128}

pub overflow_sub-result-2 : goal.overflow_sub-result-2
overflow_sub-result-2 c = omega (arith, ints, c.phi.ensures.small, c.starts_sum.ensures.small, c.mixed_limit.ensures.small)

pub returns-clause-value : goal.returns-clause-value
returns-clause-value c =
    let derived = c.args.derived.now in
    let rows = c.args.rows.now in
    let round = phi derived.divisor derived.rest in
    let exact : to_z w128 (of_z w128 (to_z w128 (of_z w128 (to_z w128 (of_z w128 c.phi.result) -ℤ to_z w128 (of_z w128 c.starts_sum.result))) -ℤ to_z w128 (of_z w128 c.mixed_limit.result))) ≡ (c.phi.result -ℤ c.starts_sum.result) -ℤ c.mixed_limit.result =
    omega (arith, ints, c.phi.ensures.small, c.starts_sum.ensures.small, c.mixed_limit.ensures.small) in
    let left : to_z w128 (of_z w128 c.shifted_limit-left.result) ≡ c.shifted_limit-left.result = omega (arith, ints, c.shifted_limit-left.ensures.small) in
    let shifted = left ∙ c.shifted_limit-left.ensures.value in
    let starts = c.starts_sum.ensures.value ∙ ap (starts_sum round) c.as_slice.ensures in
    let slack = c.mixed_limit.ensures.value ∙ ap (mixed_limit rows) c.requires.slacks in
    exact
    ∙ ap (λ (x : ℤ). (x -ℤ c.starts_sum.result) -ℤ c.mixed_limit.result) (c.phi.ensures.value ∙ ap round shifted)
    ∙ ap₂ (λ (x y : ℤ). (round (mixed_limit rows derived.factors -ℤ shifts_sum derived.groups) -ℤ x) -ℤ y) starts slack

pub returns-clause-small : goal.returns-clause-small
returns-clause-small c = omega (arith, ints, c.phi.ensures.small, c.starts_sum.ensures.small, c.mixed_limit.ensures.small)
