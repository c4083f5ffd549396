-- T is the sum of its parts, which are small.
use Rattle.std.proofs.Common.{ℤ, ◌≡◌, ◌∙◌, pos, neg_ℤ, ◌-ℤ◌, to_z, of_z, ap, arith}
use Rattle.std.proofs.lemmas.Int.{ints}
use Rattle.derived_rows.specs.Line.{line_at}
use Rattle.derived_rows.specs.Rounding.{phi}
use Rattle.derived_rows.proofs.parts.Parts.term.Goals as goal
use mir.Syntax.{w128}

pub overflow_sub-result-2 : goal.overflow_sub-result-2
overflow_sub-result-2 c = omega (arith, ints, c.phi-shifted.ensures.small, c.phi-start.ensures.small, c.at-2.ensures.small)

pub returns-clause-value : goal.returns-clause-value
returns-clause-value c =
    let parts = c.args.self.now in
    let round = phi c.args.derived.now.divisor c.args.derived.now.rest in
    let exact : to_z w128 (of_z w128 (to_z w128 (of_z w128 (to_z w128 (of_z w128 c.phi-shifted.result) -ℤ to_z w128 (of_z w128 c.phi-start.result))) -ℤ to_z w128 (of_z w128 c.at-2.result))) ≡ (c.phi-shifted.result -ℤ c.phi-start.result) -ℤ c.at-2.result =
    omega (arith, ints, c.phi-shifted.ensures.small, c.phi-start.ensures.small, c.at-2.ensures.small) in
    let moved : to_z w128 (of_z w128 (to_z w128 (of_z w128 c.at.result) -ℤ to_z w128 (of_z w128 c.from-shift.result))) ≡ line_at parts.sum c.args.value -ℤ parts.shift =
    omega (arith, ints, c.at.ensures.value, c.at.ensures.small, c.from-shift.ensures, c.requires.small.shift) in
    let alone : to_z w128 (of_z w128 (pos 0 -ℤ to_z w128 (of_z w128 c.from-shift.result))) ≡ neg_ℤ parts.shift =
    omega (arith, ints, c.from-shift.ensures, c.requires.small.shift) in
    exact
    ∙ ap (λ (x : ℤ). (x -ℤ c.phi-start.result) -ℤ c.at-2.result) (c.phi-shifted.ensures.value ∙ ap round moved)
    ∙ ap (λ (x : ℤ). (round (line_at parts.sum c.args.value -ℤ parts.shift) -ℤ x) -ℤ c.at-2.result) (c.phi-start.ensures.value ∙ ap round alone)
    ∙ ap (λ (x : ℤ). (round (line_at parts.sum c.args.value -ℤ parts.shift) -ℤ round (neg_ℤ parts.shift)) -ℤ x) c.at-2.ensures.value

pub returns-clause-small : goal.returns-clause-small
returns-clause-small c = omega (arith, ints, c.phi-shifted.ensures.small, c.phi-start.ensures.small, c.at-2.ensures.small)
