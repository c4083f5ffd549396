use Rattle.std.proofs.Common.{◌≡◌, ◌++◌, take}
use Rattle.std.specs.List.{flat_map}
use Rattle.plan_picture.specs.Bars.{bar}
use Rattle.plan_picture.proofs.bars.push_bars.Given as goal

abbrev pub invariant-loop-start : goal.invariant-loop-start
invariant-loop-start l = l.text.items ≡ l.initial.text.items ++ flat_map (bar l.shown.plant.now l.band) (take l.start-index l.plan)
