-- Rows in the order of two numbers: one more, what holds of each, and how many there are.
use Rattle.std.proofs.Common.{◌≡◌, ℕ, zero, suc, ◌+◌, ◌*◌, ◌<◌, ◌≤◌, List, [], ◌∷◌, ◌++◌, length, refl, arith, add-one, inl, inr, subst}
use Rattle.std.specs.List.{All}
use Rattle.std.proofs.lemmas.Bool.{cases_lt}
use Rattle.std.proofs.lemmas.List.{get_or_append_left, get_or-append-add, length-append, length_push}
use Rattle.std.proofs.lemmas.List.Elements.{All-nil, All-append, All-push}
use Rattle.row_kit.specs.declared.row.Row.{Row}
use Rattle.row_kit.specs.Table.{rows_below, row_table}

-- one number more
pub rows_below-more : (row : ℕ → Row) (n : ℕ) → rows_below row (n + 1) ≡ rows_below row n ++ row n ∷ []
rows_below-more row n = rw add-one refl

pub row_table-more : (row : ℕ → ℕ → Row) (count : ℕ → ℕ) (n : ℕ) → row_table row count (n + 1) ≡ row_table row count n ++ rows_below (row n) (count n)
row_table-more row count n = rw add-one refl

-- what holds of each of two lists' items holds of the items of either
pub All-front : {X : Type 0} (P : X → Type 0) (xs ys : List X) → All P (xs ++ ys) → All P xs
All-front P xs ys all k d l = subst P (get_or_append_left xs ys d k l) (all k d (omega (arith, length-append xs ys)))

pub All-back : {X : Type 0} (P : X → Type 0) (xs ys : List X) → All P (xs ++ ys) → All P ys
All-back P xs ys all k d l = subst P (get_or-append-add xs ys k d) (all (length xs + k) d (omega (arith, length-append xs ys)))

-- what holds of the row of each number holds of each row
pub All-rows_below : (P : Row → Type 0) (row : ℕ → Row) (n : ℕ) → ((k : ℕ) → k < n → P (row k)) → All P (rows_below row n)
All-rows_below P row zero h = All-nil P
All-rows_below P row (suc n) h = All-push P (rows_below row n) (row n) (All-rows_below P row n (λ k l. h k (omega arith))) (h n (omega arith))

-- and the other way round
pub rows_below-each : (P : Row → Type 0) (row : ℕ → Row) (n : ℕ) → All P (rows_below row n) → (k : ℕ) → k < n → P (row k)
rows_below-each P row zero all k l = absurd (omega arith)
rows_below-each P row (suc n) all k l =
    elim (cases_lt k n) [
      | inl before ↦ rows_below-each P row n (All-front P (rows_below row n) (row n ∷ []) all) k before
      | inr past ↦ let e : n ≡ k = omega arith in subst (λ (m : ℕ). P (row m)) e (All-back P (rows_below row n) (row n ∷ []) all 0 (row n) (omega arith))
    ]

pub All-row_table : (P : Row → Type 0) (row : ℕ → ℕ → Row) (count : ℕ → ℕ) (n : ℕ) → ((i j : ℕ) → i < n → j < count i → P (row i j)) → All P (row_table row count n)
All-row_table P row count zero h = All-nil P
All-row_table P row count (suc n) h =
    All-append P (row_table row count n) (rows_below (row n) (count n))
    (All-row_table P row count n (λ i j l m. h i j (omega arith) m))
    (All-rows_below P (row n) (count n) (λ j m. h n j (omega arith) m))

pub row_table-each : (P : Row → Type 0) (row : ℕ → ℕ → Row) (count : ℕ → ℕ) (n : ℕ) → All P (row_table row count n) → (i j : ℕ) → i < n → j < count i → P (row i j)
row_table-each P row count zero all i j l m = absurd (omega arith)
row_table-each P row count (suc n) all i j l m =
    elim (cases_lt i n) [
      | inl before ↦ row_table-each P row count n (All-front P (row_table row count n) (rows_below (row n) (count n)) all) i j before m
      | inr past ↦
          let e : n ≡ i = omega arith in
          let here : (k : ℕ) → k < count n → P (row n k) = rows_below-each P (row n) (count n) (All-back P (row_table row count n) (rows_below (row n) (count n)) all) in
          subst (λ (m : ℕ). (k : ℕ) → k < count m → P (row m k)) e here j m
    ]

-- how many rows there are
pub length-rows_below : (row : ℕ → Row) (n : ℕ) → length (rows_below row n) ≡ n
length-rows_below row zero = refl
length-rows_below row (suc n) = omega (arith, length_push (rows_below row n) (row n), length-rows_below row n)

pub length-row_table : (row : ℕ → ℕ → Row) (count : ℕ → ℕ) (most n : ℕ) → ((i : ℕ) → i < n → count i ≤ most) → length (row_table row count n) ≤ n * most
length-row_table row count most zero h = omega arith
length-row_table row count most (suc n) h =
    let before : length (row_table row count n) ≤ n * most = length-row_table row count most n (λ i l. h i (omega arith)) in
    omega (arith, before, h n (omega arith), length-append (row_table row count n) (rows_below (row n) (count n)), length-rows_below (row n) (count n))
