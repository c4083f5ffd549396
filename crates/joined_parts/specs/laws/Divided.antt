-- Which plants are divided in parts. Only clauses of private functions cite it.
use Rattle.std.specs.Prelude.{ℕ, ◌≤◌, length}
use Rattle.stn_model.specs.declared.plant.Plant.{Plant}
use Rattle.stn_model.specs.Sound.{Sound}
use Rattle.time_grid.specs.Slots.{slots}

-- a plant is sound, and its first slots are so many levels of parts, 1 to 8
pub record IsDivided (plant : Plant) (levels : ℕ) : Type 0 where
  pub sound : Sound plant
  pub least : 1 ≤ levels
  pub most : levels ≤ 8
  pub enough : levels ≤ length (slots plant)
