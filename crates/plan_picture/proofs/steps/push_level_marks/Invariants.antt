use Rattle.std.proofs.Common.{◌≡◌, ◌++◌}
use Rattle.std.specs.List.{flat_map, range_with_len}
use Rattle.plan_picture.specs.Graphs.{level_mark}
use Rattle.plan_picture.proofs.steps.push_level_marks.Given as goal

abbrev pub invariant-loop-place : goal.invariant-loop-place
invariant-loop-place l = l.text.items ≡ l.initial.text.items ++ flat_map (level_mark l.row.plant.now l.row.y l.levels) (range_with_len 0 l.place)
