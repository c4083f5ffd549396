use Rattle.std.proofs.Common.{◌≡◌, ◌++◌, take}
use Rattle.std.specs.List.{flat_map}
use Rattle.plan_picture.specs.Bars.{cleaning_before}
use Rattle.plan_picture.proofs.cleaning.push_first_cleanings.Given as goal

abbrev pub invariant-loop-start : goal.invariant-loop-start
invariant-loop-start l = l.text.items ≡ l.initial.text.items ++ flat_map (cleaning_before l.shown.plant.now l.shown.plan.now l.band) (take l.start-index l.plan)
