use Rattle.rolled_plant.proofs.Listing.{count_whole, count_rest}
use Rattle.rolled_plant.proofs.receipts.count_of.Goals as goal

pub returns-then-amount-eq0-clause-value : goal.returns-then-amount-eq0-clause-value
returns-then-amount-eq0-clause-value c = λ state time. count_whole state time c.args.amount c.if-amount-eq0.true

pub returns-else-amount-eq0-clause-value : goal.returns-else-amount-eq0-clause-value
returns-else-amount-eq0-clause-value c = λ state time. count_rest state time c.args.amount c.if-amount-eq0.false
