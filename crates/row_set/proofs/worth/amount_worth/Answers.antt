-- The product is no larger than the product of the bounds.
use Rattle.std.proofs.Common.{arith}
use Rattle.row_set.proofs.Small.{amount-small, machine-scale}
use Rattle.row_set.proofs.worth.amount_worth.Goals as goal

pub returns-clause-small : goal.returns-clause-small
returns-clause-small c =
    rw (machine-scale c.args.amount c.worth_from.result c.requires.amount c.worth_from.ensures.small) (omega (arith, amount-small c.args.amount c.worth_from.result c.worth_from.ensures.small, c.requires.amount))
