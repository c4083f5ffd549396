use Rattle.std.proofs.Common.{◌≡◌, ◌+◌, ◌-◌, length}
use Rattle.order_text.specs.ReadConflict.{orders_of, none_kept}
use Rattle.order_text.proofs.reading.read_orders.Given as goal

-- what is left to read comes to what the whole does
abbrev pub invariant-loop-done : goal.invariant-loop-done
invariant-loop-done l = record {
  goes_on : orders_of l.plant l.count 2 0 (none_kept l.plant) l.text ≡ orders_of l.plant (l.count - l.done) (l.done + 2) l.above l.kept.items l.rest;
  each : length l.kept.items ≡ length l.plant.deliveries;
}
