-- The greatest is 0 or at one end of the range.
use Rattle.std.proofs.Common.{◌≡◌, ◌∙◌, ℤ, sym, subst, refl, true, pos, ◌≤ℤ◌, ◌<ℤ◌, to_z, of_z, arith}
use Rattle.std.proofs.lemmas.Int.{ints}
use Rattle.std.proofs.lemmas.Bool.{false≢true}
use Rattle.dual_bound.specs.Line.{line_at}
use Rattle.dual_bound.proofs.Greatest.{best_in_range, best_at_zero}
use Rattle.dual_bound.proofs.totals.greatest_in.Goals as goal
use Rattle.dual_bound.proofs.totals.greatest_in.Goals.{else-domain-2-via-then-domain-2+else-most-lt0, else-domain-2-via-else-domain-2}
use mir.Syntax.{w128}

pub returns-then-most-lt0-clause-value : goal.returns-then-most-lt0-clause-value
returns-then-most-lt0-clause-value c =
    let f = line_at c.args.line.now in
    let end = c.best_end-end.result in
    let less : c.at_value-most.result <ℤ pos 0 = grind (arith, ints) in
    sym (best_at_zero f c.args.domain end c.requires.normal.positive c.if-domain-2.true refl c.best_end-end.ensures.best (subst (λ (x : ℤ). x <ℤ pos 0) c.at_value-most.ensures.value less))

pub returns-else-domain-2-clause-value : goal.returns-else-domain-2-clause-value
returns-else-domain-2-clause-value c =
    let f = line_at c.args.line.now in
    let end = c.best_end-end.result in
    let most : to_z w128 (of_z w128 c.at_value-most.result) ≡ c.at_value-most.result = omega (arith, ints, c.at_value-most.ensures.small) in
    let zero_below : c.args.domain.zero ≡ true → pos 0 ≤ℤ c.at_value-most.result =
    elim c.else-domain-2.branch [
      | else-domain-2-via-then-domain-2+else-most-lt0 w ↦ λ _. grind (arith, ints)
      | else-domain-2-via-else-domain-2 w ↦ λ held. absurd (false≢true (sym w.if-domain-2.false ∙ held))
    ] in
    most ∙ c.at_value-most.ensures.value
    ∙ sym (best_in_range f c.args.domain end c.requires.normal.positive c.best_end-end.ensures.range.0 c.best_end-end.ensures.range.1 c.best_end-end.ensures.best (λ held. subst (λ (x : ℤ). pos 0 ≤ℤ x) c.at_value-most.ensures.value (zero_below held)))
