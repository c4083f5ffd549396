use Rattle.std.proofs.Common.{◌≡◌, take}
use Rattle.rolled_plant.specs.Kept.{kept}
use Rattle.rolled_plant.proofs.starts.kept.Given as goal

abbrev pub invariant-loop-start : goal.invariant-loop-start
invariant-loop-start l = l.starts ≡ kept (take l.start-index l.plan) l.period
