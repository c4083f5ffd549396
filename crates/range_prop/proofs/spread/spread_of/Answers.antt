-- The range's spread, with 0 where the domain holds it.
use Rattle.std.proofs.Common.{refl, arith}
use Rattle.row_kit.specs.Row.{counted}
use Rattle.range_prop.proofs.Least.{least_range, least_zero, most_zero}
use Rattle.range_prop.proofs.spread.spread_of.Goals as goal

pub returns-then-domain-2-clause-least : goal.returns-then-domain-2-clause-least
returns-then-domain-2-clause-least c =
    least_zero (counted c.args.entry.now) c.args.domain.now c.ends-range.result.least c.with_zero.result.least c.requires.positive (omega arith) c.if-domain-2.true refl c.ends-range.ensures.least c.ends-range.ensures.reached c.with_zero.ensures.least c.with_zero.ensures.reached

pub returns-then-domain-2-clause-most : goal.returns-then-domain-2-clause-most
returns-then-domain-2-clause-most c =
    most_zero (counted c.args.entry.now) c.args.domain.now c.ends-range.result.most c.with_zero.result.most refl c.ends-range.ensures.most c.with_zero.ensures.most

pub returns-else-domain-2-clause-least : goal.returns-else-domain-2-clause-least
returns-else-domain-2-clause-least c =
    least_range (counted c.args.entry.now) c.args.domain.now c.ends-range.result.least c.requires.positive (omega arith) c.if-domain-2.false c.ends-range.ensures.least c.ends-range.ensures.reached
