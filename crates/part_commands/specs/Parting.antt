-- The answer of `parts`: its text, and when it is right.
use Rattle.std.specs.Prelude.{◌≡◌, ℕ, ◌^◌, ◌==◌, if◌then◌else◌, List, ◌++◌, slice_index_or, codes, decimal}
use Rattle.std.specs.List.{flat_map, range_with_len}
use Rattle.stn_model.specs.declared.plant.Plant.{Plant}
use Rattle.stn_model.specs.Plant.{run_at, task_at, unit_at}
use Rattle.time_grid.specs.Slots.{slots}
use Rattle.plant_parts.specs.PlantParts.{digit}
use Rattle.answer_texts.specs.Levels.{OnLevels}

-- the line on a slot: its number, the names of its unit and its task, and its period
unfoldable pub slot_line : Plant → ℕ → ℕ × ℕ → List ℕ
slot_line plant number slot =
    codes "slot " ++ (decimal number ++ (codes " " ++ ((unit_at plant (run_at plant slot.0).unit).name ++ (codes " " ++
    ((task_at plant (run_at plant slot.0).task).name ++ (codes " " ++ (decimal slot.1 ++ codes "\n")))))))

-- the lines on the first slots, so many
unfoldable pub slot_lines : Plant → ℕ → List ℕ
slot_lines plant levels = flat_map (λ place. slot_line plant place (slice_index_or (slots plant) place (0, 0))) (range_with_len 0 levels)

-- the word for a digit of a part's number
abbrev pub digit_word : ℕ → List ℕ
digit_word number = if number == 0 then codes " off" else codes " on"

-- the words for the first digits of a part's number, so many
unfoldable pub digit_words : ℕ → ℕ → ℕ → List ℕ
digit_words levels part count = flat_map (λ place. digit_word (digit levels part place)) (range_with_len 0 count)

-- the line on a part: its number, and for each of the first slots whether no batch starts there or one does
unfoldable pub part_line : ℕ → ℕ → List ℕ
part_line levels part = codes "part " ++ (decimal part ++ (digit_words levels part levels ++ codes "\n"))

-- the lines on the first parts, so many
unfoldable pub part_lines : ℕ → ℕ → List ℕ
part_lines levels count = flat_map (part_line levels) (range_with_len 0 count)

-- the text: how many parts there are, a line on each slot that tells them apart, and a line on each part
unfoldable pub parts_text : Plant → ℕ → List ℕ
parts_text plant levels = codes "parts " ++ (decimal (2 ^ levels) ++ (codes "\n" ++ (slot_lines plant levels ++ part_lines levels (2 ^ levels))))

-- the answer of `parts`
abbrev pub Parted : ℕ → Plant → ℕ → List ℕ → Type 0
Parted levels plant status text = OnLevels plant levels (λ s t. (s ≡ 0) × (t ≡ parts_text plant levels)) status text
