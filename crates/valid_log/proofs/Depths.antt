-- How many splits of a log over a plant may stand one below another.
use Rattle.std.proofs.Common.{ℕ, ◌≤◌, Bool, true, false, if◌then◌else◌, arith}
use Rattle.stn_model.specs.declared.plant.Plant.{Plant}
use Rattle.stn_model.specs.Points.{depth_limit}

-- they are as many as 512 slots can need, and at most as many as 4,096 can
pub depth-within : (plant : Plant) → (4608 ≤ depth_limit plant) × (depth_limit plant ≤ 36864)
depth-within plant = by plant.large
  where
    by : (large : Bool) → (4608 ≤ (if large then 36864 else 4608)) × ((if large then 36864 else 4608) ≤ 36864)
    by true = (omega arith, omega arith)
    by false = (omega arith, omega arith)
