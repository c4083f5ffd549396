use Rattle.std.proofs.Common.{◌≡◌, ◌++◌}
use Rattle.std.specs.List.{flat_map, range_with_len}
use Rattle.order_text.specs.ConflictText.{line_at}
use Rattle.order_text.proofs.printing.push_orders.Given as goal

abbrev pub invariant-loop-place : goal.invariant-loop-place
invariant-loop-place l = l.text.items ≡ l.initial.text.items ++ flat_map (line_at l.plant l.marks) (range_with_len 0 l.place)
