-- What factors make of rows: over all slots it is what they make of what the rows count, and slacks are rounded one by one.
use Rattle.std.proofs.Common.{◌≡◌, ℕ, zero, suc, ◌*◌, ◌<◌, ◌≤◌, false, cond, ltb, List, [], ◌∷◌, length, map, refl, sym, ap, ◌∙◌, subst, arith, ℤ, pos, negsuc, ◌+ℤ◌, ◌-ℤ◌, ◌*ℤ◌, ◌≤ℤ◌, ⊎_elim}
use Rattle.std.specs.Prelude.{int_lt}
use Rattle.std.specs.List.{All}
use Rattle.std.proofs.lemmas.Bool.{cases_lt, cond-false}
use Rattle.std.proofs.lemmas.Bool.Decides.{nat_tests}
use Rattle.std.proofs.lemmas.Int.{ints}
use Rattle.std.proofs.lemmas.List.{get_or_past}
use Rattle.std.proofs.Math.IntN.{*ℤ-zero, zero-*ℤ, pos-*ℤ-pos}
use Rattle.row_kit.specs.declared.row.Row.{Row}
use Rattle.row_kit.specs.Row.{IsKept, entries_sum, entry_at, no_row, row_at}
use Rattle.derived_rows.specs.declared.derived.Factor.{Factor}
use Rattle.derived_rows.specs.Derived.{mixed_at, mixed_limit, slack_factor}
use Rattle.derived_rows.proofs.Grouped.{Rounds, none_at_zero}
use Rattle.derived_rows.proofs.Products.{times_next, times_sub}
use Rattle.derived_rows.proofs.SlotSums.{over_entries, over_nothing, over_slots, over_sum, over_times}

-- what factors make of the slacks of their rows at a point: the sum of each times the limit less what the row counts
abbrev pub slacks : List Row → List Factor → List ℕ → ℤ
slacks rows [] point = pos 0
slacks rows (f ∷ fs) point = (f.by *ℤ ((row_at rows f.row).limit -ℤ entries_sum (row_at rows f.row).entries point)) +ℤ slacks rows fs point

-- what factors make of slots and of slacks is what they make of limits
pub mixed_whole : (rows : List Row) (fs : List Factor) (point : List ℕ) → slacks rows fs point +ℤ over_slots (mixed_at rows fs) 0 point ≡ mixed_limit rows fs
mixed_whole rows [] point = omega (arith, ints, over_nothing 0 point)
mixed_whole rows (f ∷ fs) point =
    let row = row_at rows f.row in
    let both = over_sum (λ s v. f.by *ℤ entry_at row.entries s v) (mixed_at rows fs) (mixed_at rows (f ∷ fs)) (λ s v. refl) 0 point in
    let here = over_times f.by (entry_at row.entries) 0 point ∙ ap (λ (x : ℤ). f.by *ℤ x) (over_entries row.entries point) in
    omega (arith, ints, both, here, mixed_whole rows fs point, times_sub f.by row.limit (entries_sum row.entries point))

-- at 0 a slot counts nothing
pub mixed_bare : (rows : List Row) (fs : List Factor) (s : ℕ) → mixed_at rows fs s 0 ≡ pos 0
mixed_bare rows [] s = refl
mixed_bare rows (f ∷ fs) s =
    omega (arith, ints, ap (λ (x : ℤ). f.by *ℤ x) (none_at_zero (row_at rows f.row).entries s), *ℤ-zero f.by, mixed_bare rows fs s)

-- a row of whatever number is kept
kept_at : (rows : List Row) (point : List ℕ) → All (IsKept point) rows → (k : ℕ) → IsKept point (row_at rows k)
kept_at rows point kept k =
    ⊎_elim
    (λ (there : k < length rows). kept k no_row there)
    (λ (past : length rows ≤ k). subst (IsKept point) (sym (get_or_past rows k no_row past)) (omega (arith, ints)))
    (cases_lt k (length rows))

-- so many times what is rounded is at most the product rounded
rounded_times : (round : ℤ → ℤ) → Rounds round → (y : ℤ) (s : ℕ) → (round y *ℤ pos s) ≤ℤ round (y *ℤ pos s)
rounded_times round rounds y zero = omega (arith, ints, *ℤ-zero (round y), ap round (*ℤ-zero y), rounds.nothing)
rounded_times round rounds y (suc s) =
    omega (arith, ints, times_next (round y) s, ap round (times_next y s), rounds.adds (y *ℤ pos s) y, rounded_times round rounds y s)

-- a function that is not below 0 at numbers that are not
abbrev pub IsPositive : (ℤ → ℤ) → Type 0
IsPositive round = (n : ℕ) → pos 0 ≤ℤ round (pos n)

not_below : (y : ℕ) → ltb y 0 ≡ false
not_below y = grind (arith, nat_tests)

-- a slack times the factor that it has is at most the product rounded
slack_rounded : (round : ℤ → ℤ) → Rounds round → IsPositive round → (f : Factor) (s : ℤ) → pos 0 ≤ℤ s → ((slack_factor round f).by *ℤ s) ≤ℤ round (f.by *ℤ s)
slack_rounded round rounds positive f (negsuc s) some = absurd (omega (arith, ints, some))
slack_rounded round rounds positive f (pos s) some = by_sign f.by
  where
    by_sign : (y : ℤ) → (cond (int_lt y (pos 0)) (round y) (pos 0) *ℤ pos s) ≤ℤ round (y *ℤ pos s)
    by_sign (negsuc y) = rounded_times round rounds (negsuc y) s
    by_sign (pos y) =
        omega (arith, ints, ap (λ (w : ℤ). w *ℤ pos s) (cond-false (ltb y 0) (round (pos y)) (pos 0) (not_below y)), zero-*ℤ (pos s), ap round (pos-*ℤ-pos y s), positive (y * s))

-- what the factors of slacks make of them is at most what the factors make of them, rounded
pub slacks_rounded : (round : ℤ → ℤ) → Rounds round → IsPositive round → (rows : List Row) (fs : List Factor) (point : List ℕ) → All (IsKept point) rows
    → slacks rows (map (slack_factor round) fs) point ≤ℤ round (slacks rows fs point)
slacks_rounded round rounds positive rows [] point kept = omega (arith, ints, rounds.nothing)
slacks_rounded round rounds positive rows (f ∷ fs) point kept =
    let row = row_at rows f.row in
    let slack = row.limit -ℤ entries_sum row.entries point in
    let some : pos 0 ≤ℤ slack = omega (arith, ints, kept_at rows point kept f.row) in
    omega (arith, ints, slack_rounded round rounds positive f slack some, slacks_rounded round rounds positive rows fs point kept, rounds.adds (f.by *ℤ slack) (slacks rows fs point))
