use Rattle.std.proofs.Common.{◌≡◌, take}
use Rattle.rolled_plant.specs.Kept.{moved}
use Rattle.rolled_plant.proofs.starts.moved.Given as goal

abbrev pub invariant-loop-start : goal.invariant-loop-start
invariant-loop-start l = l.starts ≡ moved (take l.start-index l.plan) l.period
