use Rattle.std.proofs.Common.{◌≡◌, ◌≤◌, ◌*◌, take}
use Rattle.std.specs.List.{sum_by}
use Rattle.stn_model.specs.Points.{slots_of}
use Rattle.plant_text.proofs.sizes.too_many_slots.Given as goal

abbrev pub invariant-loop-run : goal.invariant-loop-run
invariant-loop-run l = record { counted : l.count ≡ sum_by (slots_of l.plant) (take l.run-index l.run-items); small : l.count ≤ 336 * l.run-index }
