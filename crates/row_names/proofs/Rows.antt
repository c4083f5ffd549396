-- The rows of the names are the rows of the plant's program.
use Rattle.std.proofs.Common.{◌≡◌, refl, ℕ, zero, suc, ◌+◌, Bool, true, false, List, [], ◌∷◌, ◌++◌, get_or, length, map, append_assoc, ap, ap₂, sym, ◌∙◌, inl, inr}
use Rattle.std.specs.Prelude.{filter}
use Rattle.std.specs.List.{flat_map, range_with_len}
use Rattle.std.proofs.lemmas.List.{map-append, append-nil}
use Rattle.std.proofs.lemmas.List.Concat.{flat_map-append}
use Rattle.std.proofs.lemmas.List.Folds.{flat_map-map}
use Rattle.std.proofs.lemmas.Bool.{cases_Bool}
use Rattle.stn_model.specs.declared.plant.Plant.{Plant}
use Rattle.time_grid.specs.Slots.{slots}
use Rattle.time_grid.proofs.Lists.{range-more, map-range_get_or}
use Rattle.row_kit.specs.declared.row.Row.{Row}
use Rattle.row_kit.specs.Table.{rows_below, row_table}
use Rattle.balance_rows.specs.StockRows.{low_row, high_row, low_rows, high_rows, stock_rows, limit_count}
use Rattle.utility_rows.specs.LoadRows.{load_row, load_rows}
use Rattle.unit_rows.specs.Busy.{busy_row, busy_rows, unit_busy_rows, is_on}
use Rattle.unit_rows.specs.Gaps.{gap_row, gap_rows, unit_gap_rows, rows_after, rows_from, is_too_soon}
use Rattle.unit_rows.specs.Firsts.{first_row, first_rows, unit_first_rows, is_early_on}
use Rattle.row_set.specs.PlantProgram.{plant_rows}
use Rattle.row_names.specs.declared.name.RowName.{RowName}
use Rattle.row_names.specs.declared.name.RowName.TheVariants.{Busy, Low, High, Load, Gap, Last}
use Rattle.row_names.specs.RowNames.{slot_at, row_named, busy_names, low_names, high_names, load_names, gaps_after, gaps_on, gap_names, firsts_on, first_names, row_names}

-- ---- lists

-- what two functions make, one after the other
map-map : {X Y Z : Type 0} (g : Y → Z) (f : X → Y) (xs : List X) → map (λ x. g (f x)) xs ≡ map g (map f xs)
map-map g f [] = refl
map-map g f (x ∷ xs) = ap (λ ys. g (f x) ∷ ys) (map-map g f xs)

-- what a function makes of pieces
map-pieces : {X Y Z : Type 0} (g : Y → Z) (f : X → List Y) (xs : List X) → map g (flat_map f xs) ≡ flat_map (λ x. map g (f x)) xs
map-pieces g f [] = refl
map-pieces g f (x ∷ xs) = map-append g (f x) (flat_map f xs) ∙ ap (λ ys. map g (f x) ++ ys) (map-pieces g f xs)

-- the same pieces
same-pieces : {X Y : Type 0} (f g : X → List Y) → ((x : X) → f x ≡ g x) → (xs : List X) → flat_map f xs ≡ flat_map g xs
same-pieces f g same [] = refl
same-pieces f g same (x ∷ xs) = ap₂ (λ a b. a ++ b) (same x) (same-pieces f g same xs)

-- the same items
same-items : {X Y : Type 0} (f g : X → Y) → ((x : X) → f x ≡ g x) → (xs : List X) → map f xs ≡ map g xs
same-items f g same [] = refl
same-items f g same (x ∷ xs) = ap₂ (λ a b. a ∷ b) (same x) (same-items f g same xs)

-- the chosen ones of what a function makes
filter-map : {X Y : Type 0} (p : Y → Bool) (f : X → Y) (xs : List X) → filter p (map f xs) ≡ map f (filter (λ x. p (f x)) xs)
filter-map p f [] = refl
filter-map p f (x ∷ xs) = elim (cases_Bool (p (f x))) [
  | inl is ↦ rw is (ap (λ ys. f x ∷ ys) (filter-map p f xs))
  | inr is ↦ rw is (filter-map p f xs)
]

-- ---- tables

-- a row for each number below n
below-range : (row : ℕ → Row) (n : ℕ) → rows_below row n ≡ map row (range_with_len 0 n)
below-range row zero = refl
below-range row (suc n) =
    ap (λ rows. rows ++ row n ∷ []) (below-range row n) ∙ sym (map-append row (range_with_len 0 n) (n ∷ [])) ∙ ap (map row) (sym (range-more n))

-- the rows of each number below n
table-range : (row : ℕ → ℕ → Row) (count : ℕ → ℕ) (n : ℕ) → row_table row count n ≡ flat_map (λ k. map (row k) (range_with_len 0 (count k))) (range_with_len 0 n)
table-range row count zero = refl
table-range row count (suc n) =
    let rows = λ (k : ℕ). map (row k) (range_with_len 0 (count k)) in
    ap₂ (λ a b. a ++ b) (table-range row count n) (below-range (row n) (count n) ∙ sym (append-nil (rows n)))
    ∙ sym (flat_map-append rows (range_with_len 0 n) (n ∷ [])) ∙ ap (flat_map rows) (sym (range-more n))

-- the rows of names that go by two numbers
named-table : (plant : Plant) (name : ℕ → ℕ → RowName) (row : ℕ → ℕ → Row) (count : ℕ → ℕ) → ((k j : ℕ) → row_named plant (name k j) ≡ row k j) → (n : ℕ)
    → map (row_named plant) (flat_map (λ k. map (name k) (range_with_len 0 (count k))) (range_with_len 0 n)) ≡ flat_map (λ k. map (row k) (range_with_len 0 (count k))) (range_with_len 0 n)
named-table plant name row count is n =
    map-pieces (row_named plant) (λ k. map (name k) (range_with_len 0 (count k))) (range_with_len 0 n)
    ∙ same-pieces (λ k. map (row_named plant) (map (name k) (range_with_len 0 (count k)))) (λ k. map (row k) (range_with_len 0 (count k)))
    (λ k. sym (map-map (row_named plant) (name k) (range_with_len 0 (count k))) ∙ same-items (λ j. row_named plant (name k j)) (row k) (is k) (range_with_len 0 (count k))) (range_with_len 0 n)

-- ---- each family

busy-rows-are : (plant : Plant) → map (row_named plant) (busy_names plant) ≡ busy_rows plant
unfolding busy_names busy_rows unit_busy_rows
busy-rows-are plant = named-table plant (λ unit period. Busy unit period) (busy_row plant) (λ _. plant.periods) (λ _ _. refl) (length plant.units)

low-rows-are : (plant : Plant) → map (row_named plant) (low_names plant) ≡ low_rows plant
unfolding low_names low_rows
low-rows-are plant =
    named-table plant (λ state time. Low state time) (low_row plant) (λ _. plant.periods + 1) (λ _ _. refl) (length plant.states)
    ∙ sym (table-range (low_row plant) (λ _. plant.periods + 1) (length plant.states))

high-rows-are : (plant : Plant) → map (row_named plant) (high_names plant) ≡ high_rows plant
unfolding high_names high_rows
high-rows-are plant =
    named-table plant (λ state time. High state time) (high_row plant) (limit_count plant) (λ _ _. refl) (length plant.states)
    ∙ sym (table-range (high_row plant) (limit_count plant) (length plant.states))

load-rows-are : (plant : Plant) → map (row_named plant) (load_names plant) ≡ load_rows plant
unfolding load_names load_rows
load-rows-are plant =
    named-table plant (λ utility period. Load utility period) (load_row plant) (λ _. plant.periods) (λ _ _. refl) (length plant.utilities)
    ∙ sym (table-range (load_row plant) (λ _. plant.periods) (length plant.utilities))

-- ---- gap rows

-- the slots by their numbers
slots-by-number : (plant : Plant) → map (slot_at plant) (range_with_len 0 (length (slots plant))) ≡ slots plant
slots-by-number plant = map-range_get_or (slots plant) (0, 0)

-- those that are chosen
chosen-slots : (plant : Plant) (p : ℕ × ℕ → Bool) → map (slot_at plant) (filter (λ number. p (slot_at plant number)) (range_with_len 0 (length (slots plant)))) ≡ filter p (slots plant)
chosen-slots plant p = sym (filter-map p (slot_at plant) (range_with_len 0 (length (slots plant)))) ∙ ap (filter p) (slots-by-number plant)

after-rows-are : (plant : Plant) (unit first : ℕ) → map (row_named plant) (gaps_after plant unit first) ≡ rows_after plant (slot_at plant first) (slots plant)
unfolding gaps_after
after-rows-are plant unit first =
    let near = filter (λ second. is_too_soon plant (slot_at plant first) (slot_at plant second)) (range_with_len 0 (length (slots plant))) in
    sym (map-map (row_named plant) (Gap unit first) near)
    ∙ map-map (gap_row plant (slot_at plant first)) (slot_at plant) near
    ∙ ap (map (gap_row plant (slot_at plant first))) (chosen-slots plant (is_too_soon plant (slot_at plant first)))

on-rows-are : (plant : Plant) (unit : ℕ) → map (row_named plant) (gaps_on plant unit) ≡ unit_gap_rows plant unit
unfolding gaps_on unit_gap_rows
on-rows-are plant unit =
    let own = filter (λ first. is_on plant unit (slot_at plant first)) (range_with_len 0 (length (slots plant))) in
    map-pieces (row_named plant) (gaps_after plant unit) own
    ∙ same-pieces (λ first. map (row_named plant) (gaps_after plant unit first)) (λ first. rows_after plant (slot_at plant first) (slots plant)) (after-rows-are plant unit) own
    ∙ sym (flat_map-map (λ slot. rows_after plant slot (slots plant)) (slot_at plant) own)
    ∙ ap (flat_map (λ slot. rows_after plant slot (slots plant))) (chosen-slots plant (is_on plant unit))

gap-rows-are : (plant : Plant) → map (row_named plant) (gap_names plant) ≡ gap_rows plant
unfolding gap_names gap_rows
gap-rows-are plant =
    map-pieces (row_named plant) (gaps_on plant) (range_with_len 0 (length plant.units))
    ∙ same-pieces (λ unit. map (row_named plant) (gaps_on plant unit)) (unit_gap_rows plant) (on-rows-are plant) (range_with_len 0 (length plant.units))

-- ---- first rows

early-rows-are : (plant : Plant) (unit : ℕ) → map (row_named plant) (firsts_on plant unit) ≡ unit_first_rows plant unit
unfolding firsts_on unit_first_rows
early-rows-are plant unit =
    let early = filter (λ slot. is_early_on plant unit (slot_at plant slot)) (range_with_len 0 (length (slots plant))) in
    sym (map-map (row_named plant) (Last unit) early)
    ∙ map-map (first_row plant) (slot_at plant) early
    ∙ ap (map (first_row plant)) (chosen-slots plant (is_early_on plant unit))

first-rows-are : (plant : Plant) → map (row_named plant) (first_names plant) ≡ first_rows plant
unfolding first_names first_rows
first-rows-are plant =
    map-pieces (row_named plant) (firsts_on plant) (range_with_len 0 (length plant.units))
    ∙ same-pieces (λ unit. map (row_named plant) (firsts_on plant unit)) (unit_first_rows plant) (early-rows-are plant) (range_with_len 0 (length plant.units))

-- ---- all

-- the rows of all names
pub rows_are : (plant : Plant) → map (row_named plant) (row_names plant) ≡ plant_rows plant
unfolding row_names plant_rows stock_rows
rows_are plant =
    map-append (row_named plant) (busy_names plant) (low_names plant ++ (high_names plant ++ (load_names plant ++ (gap_names plant ++ first_names plant))))
    ∙ ap₂ (λ a b. a ++ b) (busy-rows-are plant)
    (map-append (row_named plant) (low_names plant) (high_names plant ++ (load_names plant ++ (gap_names plant ++ first_names plant)))
    ∙ ap₂ (λ a b. a ++ b) (low-rows-are plant)
    (map-append (row_named plant) (high_names plant) (load_names plant ++ (gap_names plant ++ first_names plant))
    ∙ ap₂ (λ a b. a ++ b) (high-rows-are plant)
    (map-append (row_named plant) (load_names plant) (gap_names plant ++ first_names plant)
    ∙ ap₂ (λ a b. a ++ b) (load-rows-are plant)
    (map-append (row_named plant) (gap_names plant) (first_names plant) ∙ ap₂ (λ a b. a ++ b) (gap-rows-are plant) (first-rows-are plant))))
    ∙ sym (append_assoc (low_rows plant) (high_rows plant) (load_rows plant ++ (gap_rows plant ++ first_rows plant))))
