use Rattle.std.proofs.Common.{◌≡◌, ◌++◌, take}
use Rattle.std.specs.List.{flat_map}
use Rattle.plan_picture.specs.Bars.{cleaning_between}
use Rattle.plan_picture.proofs.cleaning.push_cleaning_after.Given as goal

abbrev pub invariant-loop-b : goal.invariant-loop-b
invariant-loop-b l = l.text.items ≡ l.initial.text.items ++ flat_map (cleaning_between l.shown.plant.now l.shown.plan.now l.band l.a) (take l.b-index l.plan)
