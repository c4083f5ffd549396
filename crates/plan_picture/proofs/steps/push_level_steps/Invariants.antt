use Rattle.std.proofs.Common.{◌≡◌, ◌++◌, take}
use Rattle.std.specs.List.{flat_map}
use Rattle.plan_picture.specs.Graphs.{level_step}
use Rattle.plan_picture.proofs.steps.push_level_steps.Given as goal

abbrev pub invariant-loop-level : goal.invariant-loop-level
invariant-loop-level l = l.text.items ≡ l.initial.text.items ++ flat_map (level_step l.row.plant.now l.row.y l.row.top) (take l.level-index l.levels)
