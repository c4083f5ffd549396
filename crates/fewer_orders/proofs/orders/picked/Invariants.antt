use Rattle.std.proofs.Common.{◌≡◌, take}
use Rattle.fewer_orders.specs.Alone.{picked}
use Rattle.fewer_orders.proofs.orders.picked.Given as goal

abbrev pub invariant-loop-place : goal.invariant-loop-place
invariant-loop-place l = l.list ≡ picked (take l.place l.kept) (take l.place l.deliveries)
