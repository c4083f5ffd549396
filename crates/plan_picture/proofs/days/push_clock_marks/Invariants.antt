use Rattle.std.proofs.Common.{◌≡◌, ◌++◌}
use Rattle.std.specs.List.{flat_map, range_with_len}
use Rattle.plan_picture.specs.Days.{clock_mark}
use Rattle.plan_picture.proofs.days.push_clock_marks.Given as goal

abbrev pub invariant-loop-place : goal.invariant-loop-place
invariant-loop-place l = l.text.items ≡ l.initial.text.items ++ flat_map (clock_mark l.row.plant.now l.row.calendar.now l.row.band l.row.y) (range_with_len 0 l.place)
