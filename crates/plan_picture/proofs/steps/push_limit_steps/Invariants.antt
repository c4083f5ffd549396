use Rattle.std.proofs.Common.{◌≡◌, ◌++◌, take}
use Rattle.std.specs.List.{flat_map}
use Rattle.plan_picture.specs.Graphs.{size_step}
use Rattle.plan_picture.proofs.steps.push_limit_steps.Given as goal

abbrev pub invariant-loop-limit : goal.invariant-loop-limit
invariant-loop-limit l = l.text.items ≡ l.initial.text.items ++ flat_map (size_step l.row.plant.now l.row.y l.row.top) (take l.limit-index l.limits)
