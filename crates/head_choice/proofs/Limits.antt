-- How many slots a program over a plant may have, and how many splits of its logs may stand one below another.
use Rattle.std.proofs.Common.{ℕ, ◌*◌, ◌≤◌, Bool, true, false, if◌then◌else◌, arith}
use Rattle.stn_model.specs.declared.plant.Plant.{Plant}
use Rattle.stn_model.specs.Points.{depth_limit, slot_limit}

-- a program has room for as many slots
pub slots-within : (plant : Plant) → slot_limit plant ≤ 4096
slots-within plant = by plant.large
  where
    by : (large : Bool) → (if large then 4096 else 512) ≤ 4096
    by true = omega arith
    by false = omega arith

-- there may be nine splits for each slot
pub limits-nine : (plant : Plant) → 9 * slot_limit plant ≤ depth_limit plant
limits-nine plant = by plant.large
  where
    by : (large : Bool) → 9 * (if large then 4096 else 512) ≤ (if large then 36864 else 4608)
    by true = omega arith
    by false = omega arith
