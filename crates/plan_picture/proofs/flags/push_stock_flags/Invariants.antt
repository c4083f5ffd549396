use Rattle.std.proofs.Common.{◌≡◌, ◌++◌}
use Rattle.std.specs.List.{flat_map, range_with_len}
use Rattle.plan_picture.specs.Graphs.{stock_flag}
use Rattle.plan_picture.proofs.flags.push_stock_flags.Given as goal

abbrev pub invariant-loop-place : goal.invariant-loop-place
invariant-loop-place l = l.text.items ≡ l.initial.text.items ++ flat_map (stock_flag l.plant l.band l.state l.y) (range_with_len 0 l.place)
