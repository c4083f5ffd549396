use Rattle.std.proofs.Common.{◌≡◌, ◌++◌}
use Rattle.std.specs.List.{flat_map, range_with_len}
use Rattle.plan_picture.specs.Held.{held}
use Rattle.plan_picture.proofs.held.push_held_bars.Given as goal

abbrev pub invariant-loop-unit : goal.invariant-loop-unit
invariant-loop-unit l = l.text.items ≡ l.initial.text.items ++ flat_map (held l.plant l.band) (range_with_len 0 l.unit)
