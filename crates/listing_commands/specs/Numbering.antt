-- The answer of `slots`: the slots and the rows of a plant's program by number.
use Rattle.std.specs.Prelude.{◌≡◌, ℕ, List, ◌++◌, length, map, codes, decimal, slice_index_or}
use Rattle.std.specs.List.{flat_map, range_with_len}
use Rattle.stn_model.specs.declared.plant.Plant.{Plant}
use Rattle.stn_model.specs.Plant.{state_at, unit_at, task_at, utility_at, run_at}
use Rattle.time_grid.specs.Slots.{slots}
use Rattle.row_set.specs.PlantProgram.{plant_rows}
use Rattle.row_names.specs.declared.name.RowName.{RowName}
use Rattle.row_names.specs.declared.name.RowName.TheVariants.{Busy, Low, High, Load, Gap, Last}
use Rattle.row_names.specs.RowNames.{row_names, row_named, slot_at}

-- a line that counts items
abbrev pub count_line : List ℕ → ℕ → List ℕ
count_line what count = what ++ (decimal count ++ codes "\n")

-- the period of a slot and the sizes of its run, to the end of the line
unfoldable pub size_words : ℕ → ℕ → ℕ → List ℕ
size_words period least most = codes " " ++ (decimal period ++ (codes " " ++ (decimal least ++ (codes " " ++ (decimal most ++ codes "\n")))))

-- the number of a slot, before its names
abbrev pub numbered : List ℕ → ℕ → List ℕ
numbered what number = what ++ (decimal number ++ codes " ")

-- the line of a slot: its number, its unit and task, its period, and the sizes that a batch in it may have
unfoldable pub slot_line : Plant → ℕ → ℕ × ℕ → List ℕ
slot_line plant number slot =
    let run = run_at plant slot.0
    in numbered (codes "slot ") number ++ ((unit_at plant run.unit).name ++ (codes " " ++ ((task_at plant run.task).name ++ size_words slot.1 run.min run.max)))

-- a name and a number, to the end of the line
abbrev pub name_and_number : List ℕ → ℕ → List ℕ
name_and_number name number = name ++ (codes " " ++ (decimal number ++ codes "\n"))

-- what a gap row is of: its unit and the numbers of its two slots
abbrev pub gap_words : List ℕ → ℕ → ℕ → List ℕ
gap_words unit first second = codes "gap " ++ (unit ++ (codes " " ++ (decimal first ++ (codes " " ++ (decimal second ++ codes "\n")))))

-- what a row is of, to the end of the line
unfoldable pub row_words : Plant → RowName → List ℕ
row_words plant (Busy unit period) = codes "busy " ++ name_and_number (unit_at plant unit).name period
row_words plant (Low state time) = codes "low " ++ name_and_number (state_at plant state).name time
row_words plant (High state time) = codes "high " ++ name_and_number (state_at plant state).name time
row_words plant (Load utility period) = codes "load " ++ name_and_number (utility_at plant utility).name period
row_words plant (Gap unit first second) = gap_words (unit_at plant unit).name first second
row_words plant (Last unit slot) = codes "last " ++ name_and_number (unit_at plant unit).name slot

-- the line of a row: its number, and what it is of
abbrev pub row_line : Plant → ℕ → RowName → List ℕ
row_line plant number name = numbered (codes "row ") number ++ row_words plant name

-- the lines of the slots
abbrev pub slot_lines : Plant → List ℕ
slot_lines plant = flat_map (λ number. slot_line plant number (slot_at plant number)) (range_with_len 0 (length (slots plant)))

-- a row's name, in the place of one that is not there
abbrev pub no_name : RowName
no_name = Busy 0 0

-- the lines of rows of these names
abbrev pub row_lines : Plant → List RowName → List ℕ
row_lines plant names = flat_map (λ number. row_line plant number (slice_index_or names number no_name)) (range_with_len 0 (length names))

-- the text on a plant's slots and rows: how many slots there are, and a line for each; how many rows, and a line for each
unfoldable pub slots_text : Plant → List ℕ
slots_text plant =
    count_line (codes "slots ") (length (slots plant)) ++ (slot_lines plant
    ++ (count_line (codes "rows ") (length (row_names plant)) ++ row_lines plant (row_names plant)))

-- the answer of `slots`: the text, in which the rows of the names are the rows of the plant's program
pub record Numbered (plant : Plant) (status : ℕ) (text : List ℕ) : Type 0 where
  pub status_is : status ≡ 0
  pub text_is : text ≡ slots_text plant
  pub rows : map (row_named plant) (row_names plant) ≡ plant_rows plant
