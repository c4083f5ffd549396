use Rattle.std.proofs.Common.{◌≡◌, ℕ, ◌<◌, [], length, get_or}
use Rattle.stn_model.specs.declared.plant.Run.{Run}
use Rattle.plant_text.specs.Sizes.{IsRow}
use Rattle.plant_text.proofs.sizes.slot_rows.Given as goal

abbrev pub invariant-loop-number : goal.invariant-loop-number
invariant-loop-number l = record { all : length l.rows ≡ 256; each : (k : ℕ) (run : Run) → k < l.number → IsRow l.plant (get_or l.run-items k run) (get_or l.rows k []) }
