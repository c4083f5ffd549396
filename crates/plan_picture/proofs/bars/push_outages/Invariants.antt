use Rattle.std.proofs.Common.{◌≡◌, ◌++◌, take}
use Rattle.std.specs.List.{flat_map}
use Rattle.plan_picture.specs.Bars.{outage_box}
use Rattle.plan_picture.proofs.bars.push_outages.Given as goal

abbrev pub invariant-loop-outage : goal.invariant-loop-outage
invariant-loop-outage l = l.text.items ≡ l.initial.text.items ++ flat_map (outage_box l.plant l.band) (take l.outage-index l.outage-items)
