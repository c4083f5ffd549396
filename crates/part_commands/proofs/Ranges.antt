-- Texts that are put together over the first numbers.
use Rattle.std.proofs.Common.{◌≡◌, ℕ, ◌+◌, ◌<◌, List, [], ◌∷◌, ◌++◌, length, get_or, ap, ◌∙◌, sym, add-one, append-nil}
use Rattle.std.specs.Prelude.{slice_index_or}
use Rattle.std.proofs.lemmas.List.{get_or_default}
use Rattle.time_grid.proofs.Lists.{range-more}
use Rattle.std.specs.List.{flat_map, range_with_len}
use Rattle.std.proofs.lemmas.List.Concat.{flat_map-append}
use Rattle.time_grid.specs.Slots.{slots}
use Rattle.stn_model.specs.declared.plant.Plant.{Plant}
use Rattle.part_commands.specs.Parting.{slot_line, slot_lines, digit_word, digit_words, part_line, part_lines}
use Rattle.plant_parts.specs.PlantParts.{digit}

-- one number more
range_more : (f : ℕ → List ℕ) (n : ℕ) → flat_map f (range_with_len 0 (n + 1)) ≡ flat_map f (range_with_len 0 n) ++ f n
range_more f n =
    rw add-one (ap (flat_map f) (range-more n) ∙ flat_map-append f (range_with_len 0 n) (n ∷ []) ∙ ap (λ (x : List ℕ). flat_map f (range_with_len 0 n) ++ x) (append-nil (f n)))

-- one slot more
pub slot_more : (plant : Plant) (n : ℕ) (slot : ℕ × ℕ) → n < length (slots plant) → slot ≡ get_or (slots plant) n slot → slot_lines plant (n + 1) ≡ slot_lines plant n ++ slot_line plant n slot
unfolding slot_lines
slot_more plant n slot within is =
    range_more (λ place. slot_line plant place (slice_index_or (slots plant) place (0, 0))) n
    ∙ ap (λ (s : ℕ × ℕ). flat_map (λ place. slot_line plant place (slice_index_or (slots plant) place (0, 0))) (range_with_len 0 n) ++ slot_line plant n s)
    (get_or_default (slots plant) n (0, 0) slot within ∙ sym is)

-- one digit more
pub digit_more : (levels part n : ℕ) → digit_words levels part (n + 1) ≡ digit_words levels part n ++ digit_word (digit levels part n)
unfolding digit_words
digit_more levels part n = range_more (λ place. digit_word (digit levels part place)) n

-- one part more
pub part_more : (levels n : ℕ) → part_lines levels (n + 1) ≡ part_lines levels n ++ part_line levels n
unfolding part_lines
part_more levels n = range_more (part_line levels) n
