-- The answers of the commands on a plant alone.
use Rattle.std.specs.Prelude.{ℕ, List}
use Rattle.stn_model.specs.declared.plant.Plant.{Plant}
use Rattle.command_words.specs.declared.uses.PlantUse.{PlantUse}
use Rattle.command_words.specs.declared.uses.PlantUse.TheVariants.{Upgrade, Slots}
use Rattle.listing_commands.specs.Upgrading.{Upgraded}
use Rattle.listing_commands.specs.Numbering.{Numbered}

-- the answer to what is asked of a plant: the plant as a plant file, or its slots and rows by number
abbrev pub Printed : PlantUse → Plant → ℕ → List ℕ → Type 0
Printed Upgrade plant status text = Upgraded plant status text
Printed Slots plant status text = Numbered plant status text
