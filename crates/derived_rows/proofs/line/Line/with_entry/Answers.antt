-- The parts of the line are the sums of the parts.
use Rattle.std.proofs.Common.{ℤ, ◌≡◌, ◌∙◌, ◌+ℤ◌, ◌*ℤ◌, to_z, of_z, ap, ap₂, arith}
use Rattle.std.proofs.lemmas.Int.{ints}
use Rattle.derived_rows.proofs.LineSums.{line_plus}
use Rattle.derived_rows.proofs.line.Line.with_entry.Goals as goal
use mir.Syntax.{w64, w128}

pub returns-clause-value : goal.returns-clause-value
returns-clause-value c =
    let line = c.args.self.now in
    let entry = c.args.entry.now in
    let y = c.args.factor.now.by in
    let ef : to_z w128 (of_z w128 (to_z w128 (of_z w128 line.fixed) +ℤ to_z w128 (of_z w128 c.scaled.result))) ≡ line.fixed +ℤ c.scaled.result = omega (arith, ints, c.scaled.ensures.small, c.requires.within.fixed) in
    let ep : to_z w128 (of_z w128 (to_z w128 (of_z w128 line.per) +ℤ to_z w128 (of_z w128 c.scaled-2.result))) ≡ line.per +ℤ c.scaled-2.result = omega (arith, ints, c.scaled-2.ensures.small, c.requires.within.per) in
    let f : to_z w64 (of_z w64 entry.fixed) ≡ entry.fixed = omega (arith, ints) in
    let p : to_z w64 (of_z w64 entry.per) ≡ entry.per = omega (arith, ints) in
    let b : to_z w64 (of_z w64 y) ≡ y = omega (arith, ints) in
    line_plus line _ entry y (ef ∙ ap (λ (x : ℤ). line.fixed +ℤ x) (c.scaled.ensures.value ∙ ap₂ (λ (a d : ℤ). a *ℤ d) b f)) (ep ∙ ap (λ (x : ℤ). line.per +ℤ x) (c.scaled-2.ensures.value ∙ ap₂ (λ (a d : ℤ). a *ℤ d) b p))
