-- What a text means, by the reader of plant files.
use Rattle.std.specs.Prelude.{◌≡◌, ℕ, ◌≤◌, List, ◌++◌, length, drop, Some, None, Ok}
use Rattle.toml.specs.Parse.{skip_bom}
use Rattle.stn_model.specs.declared.plant.Plant.{Plant}
use Rattle.plant_text.specs.Tests.{first_fault}
use Rattle.plant_text.specs.Document.{document_of, max_bytes, plant_tests, plant_of}
use Rattle.plant_text.specs.Reading.{reading}
use Rattle.plant_make.specs.Entries.{table_of}
use Rattle.plant_make.specs.Printed.{plant_entries}

-- the text means the plant, however long it is: no test of a plant file holds of it but perhaps the
-- first one, that it is too long, and its plant is the plant
pub record Means (plant : Plant) (text : List ℕ) : Type 0 where
  pub passes : first_fault (drop 1 (plant_tests text)) ≡ None
  pub is : plant_of text ≡ plant

-- the new bytes are the old ones followed by a text whose document is that of the plant, so that it
-- means the plant; it begins with no byte order mark, and where it is not too long for its version,
-- it is read as the plant
pub record Puts (plant : Plant) (old new : List ℕ) : Type 0 where
  pub text : List ℕ
  pub appended : new ≡ old ++ text
  pub document : document_of text ≡ Some (table_of (plant_entries plant))
  pub means : Means plant text
  pub unmarked : skip_bom text ≡ text
  pub reads : length text ≤ max_bytes plant.large → reading text ≡ Ok plant
