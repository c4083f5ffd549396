-- There are at least as many tags of lesser lanes as there are lesser lanes.
use Rattle.std.proofs.Common.{◌-◌, ◌≤◌, ltb}
use Rattle.std.specs.List.{count_by}
use Rattle.setup_slots.proofs.tags.free_lane.Given as goal

abbrev pub invariant-loop-lane : goal.invariant-loop-lane
invariant-loop-lane l = l.lane ≤ count_by (λ tag. ltb tag.lane l.lane) l.tags

abbrev pub decreases-loop-lane : goal.decreases-loop-lane
decreases-loop-lane l = 4097 - l.lane
