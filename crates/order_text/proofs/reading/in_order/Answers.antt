-- A line that is right is that of a delivery of the plant.
use Rattle.std.proofs.Common.{◌≡◌, true, arith}
use Rattle.order_text.specs.ReadConflict.{is_order}
use Rattle.order_text.proofs.Orders.{order_within}
use Rattle.order_text.proofs.reading.in_order.Goals as goal

pub returns-clause-within : goal.returns-clause-within
returns-clause-within c =
    let is : is_order c.args.plant.now c.args.number c.args.line.now ≡ true = grind arith in
    order_within c.args.plant.now c.args.number c.args.line.now is
