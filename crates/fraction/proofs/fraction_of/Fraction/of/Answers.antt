use Rattle.std.proofs.Common.{arith}
use Rattle.fraction.proofs.LowestTerms.{Reduces-positive, AreLowest-reduced}
use Rattle.fraction.proofs.fraction_of.Fraction.of.Goals as goal

pub nonzero_div-under : goal.nonzero_div-under
nonzero_div-under c = Reduces-positive c.args.amount c.args.quantum c.divisor_of-divisor.result c.requires.some c.divisor_of-divisor.ensures

pub nonzero_div-result : goal.nonzero_div-result
nonzero_div-result c = Reduces-positive c.args.amount c.args.quantum c.divisor_of-divisor.result c.requires.some c.divisor_of-divisor.ensures

pub returns-then-under-le-MAX_PART : goal.returns-then-under-le-MAX_PART
returns-then-under-le-MAX_PART c =
    let terms = AreLowest-reduced c.args.amount c.args.quantum c.divisor_of-divisor.result c.requires.some c.requires.most c.divisor_of-divisor.ensures in
    (record { some = terms.some; most = terms.most; small = c.if-under-le-MAX_PART.true }, record { same = terms.same; least = terms.least })

pub returns-else-under-le-MAX_PART : goal.returns-else-under-le-MAX_PART
returns-else-under-le-MAX_PART c = λ over under there same.
    let terms = AreLowest-reduced c.args.amount c.args.quantum c.divisor_of-divisor.result c.requires.some c.requires.most c.divisor_of-divisor.ensures in
    omega (arith, terms.least over under there same, c.if-under-le-MAX_PART.false)
