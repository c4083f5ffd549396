-- The answer of `upgrade`, and when it is right.
use Rattle.std.specs.Prelude.{◌≡◌, ℕ, List, []}
use Rattle.stn_model.specs.declared.plant.Plant.{Plant}
use Rattle.plant_make.specs.Meaning.{Puts}

-- the answer of `upgrade`: a text that means the plant, and is read as it where it is not too long for a plant file
pub record Upgraded (plant : Plant) (status : ℕ) (text : List ℕ) : Type 0 where
  pub status_is : status ≡ 0
  pub puts : Puts plant [] text
