use Rattle.std.proofs.Common.{◌≡◌, ◌++◌}
use Rattle.std.specs.List.{flat_map, range_with_len}
use Rattle.plan_picture.specs.Graphs.{load_row}
use Rattle.plan_picture.proofs.graphs.push_load_rows.Given as goal

abbrev pub invariant-loop-utility : goal.invariant-loop-utility
invariant-loop-utility l = l.text.items ≡ l.initial.text.items ++ flat_map (load_row l.shown.plant.now l.shown.plan.now l.shown.states l.band) (range_with_len 0 l.utility)
