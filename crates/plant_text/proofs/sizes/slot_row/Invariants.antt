use Rattle.std.proofs.Common.{◌≡◌, ℕ, ◌<◌, false, length, get_or}
use Rattle.stn_model.specs.Points.{has_slot}
use Rattle.plant_text.proofs.sizes.slot_row.Given as goal

abbrev pub invariant-loop-period : goal.invariant-loop-period
invariant-loop-period l = record { all : length l.row ≡ 336; each : (k : ℕ) → k < l.period → get_or l.row k false ≡ has_slot l.plant l.run k }
