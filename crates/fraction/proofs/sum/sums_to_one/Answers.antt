use Rattle.std.proofs.Common.{◌≡◌, ◌*◌, ◌/◌, sum_by}
use Rattle.std.proofs.lemmas.Bool.Decides.{Decides-eqb}
use Rattle.fraction.specs.declared.fraction_of.Fraction.{Fraction}
use Rattle.fraction.specs.Fractions.{SumsToOne, common_under}
use Rattle.fraction.proofs.sum.sums_to_one.Goals as goal

pub returns-clause-sum : goal.returns-clause-sum
unfolding SumsToOne
returns-clause-sum c =
    let numerators : c.numerator_sum.result ≡ sum_by (λ (part : Fraction). part.over * (common_under c.args.parts.now / part.under)) c.args.parts.now = rw (← c.common_denominator-whole.ensures.value) c.numerator_sum.ensures in
    rw (← numerators) (rw (← c.common_denominator-whole.ensures.value) (Decides-eqb c.numerator_sum.result c.common_denominator-whole.result))
