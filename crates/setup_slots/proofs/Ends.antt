-- A batch of a slot ends by the horizon.
use Rattle.std.proofs.Common.{ℕ, ◌+◌, ◌≤◌}
use Rattle.stn_model.specs.declared.plant.Plant.{Plant}
use Rattle.stn_model.specs.Plant.{duration_of, end_of, run_at, task_at}
use Rattle.stn_model.specs.Points.{has_slot, least_start}
use Rattle.stn_model.proofs.Fitting.{fit_parts}
use Rattle.time_grid.specs.Slots.{IsSlotOf}

pub slot-ends : (plant : Plant) (slot : ℕ × ℕ) → IsSlotOf plant slot → slot.1 + duration_of (task_at plant (run_at plant slot.0).task) ≤ plant.periods
unfolding has_slot end_of
slot-ends plant slot is = (fit_parts plant (least_start (run_at plant slot.0) slot.1) is.has).ends
