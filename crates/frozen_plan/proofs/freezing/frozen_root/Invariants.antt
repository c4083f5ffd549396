use Rattle.std.proofs.Common.{◌≡◌, map, take}
use Rattle.time_grid.specs.Slots.{slots}
use Rattle.frozen_plan.specs.Frozen.{frozen_domain}
use Rattle.frozen_plan.proofs.freezing.frozen_root.Given as goal

abbrev pub invariant-loop-place : goal.invariant-loop-place
invariant-loop-place l = l.root.items ≡ map (frozen_domain l.plant l.period l.kept) (take l.place (slots l.plant))
