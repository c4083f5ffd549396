use Rattle.std.proofs.Common.{◌≡◌, ◌++◌}
use Rattle.std.specs.List.{flat_map, range_with_len}
use Rattle.plan_picture.specs.Picture.{band_text}
use Rattle.plan_picture.proofs.whole.push_bands.Given as goal

abbrev pub invariant-loop-band : goal.invariant-loop-band
invariant-loop-band l = l.text.items ≡ l.initial.text.items ++ flat_map (band_text l.shown.plant.now l.shown.plan.now l.shown.states) (range_with_len 0 l.band)
