-- Factors whose rows ascend, one place at a time.
use Rattle.std.proofs.Common.{◌≡◌, ℕ, ◌+◌, ◌-◌, ◌<◌, ◌≤◌, List, length, map, get_or, pos, ap, ⊎_elim, arith}
use Rattle.std.proofs.lemmas.List.{get_or-map, length-map}
use Rattle.std.proofs.lemmas.Bool.{cases_lt}
use Rattle.derived_rows.specs.declared.derived.Factor.{Factor}

-- the rows of factors
abbrev pub rows_of : List Factor → List ℕ
rows_of factors = map (λ (f : Factor). f.row) factors

-- a factor for a place where there is none
abbrev pub no_factor : Factor
no_factor = record { row = 0; by = pos 0 }

-- each row below a place is below the next one
abbrev pub AscendTo : List Factor → ℕ → Type 0
AscendTo factors place = (k : ℕ) → k + 1 < place → get_or (rows_of factors) k 0 < get_or (rows_of factors) (k + 1) 0

row_at : (fs : List Factor) (k : ℕ) → k < length fs → get_or (rows_of fs) k 0 ≡ (get_or fs k no_factor).row
row_at fs k lt = get_or-map (λ (f : Factor). f.row) fs k no_factor 0 lt

-- one place more ascends
pub rises-more : (fs : List Factor) (i : ℕ) → AscendTo fs i → i < length fs → (get_or fs (i - 1) no_factor).row < (get_or fs i no_factor).row → AscendTo fs (i + 1)
rises-more fs i before lt here k h =
    ⊎_elim (λ (low : k + 1 < i). before k low)
    (λ (high : i ≤ k + 1).
    let at_k : k ≡ i - 1 = omega arith in
    let at_next : k + 1 ≡ i = omega arith in
    omega (arith, here, row_at fs k (omega arith), row_at fs (k + 1) (omega arith), ap (λ (n : ℕ). (get_or fs n no_factor).row) at_k, ap (λ (n : ℕ). (get_or fs n no_factor).row) at_next))
    (cases_lt (k + 1) i)

-- or does not
pub falls-at : (fs : List Factor) (i : ℕ) → 1 ≤ i → i < length fs → (get_or fs i no_factor).row ≤ (get_or fs (i - 1) no_factor).row → AscendTo fs (length (rows_of fs)) → ⊥
falls-at fs i low lt here ascends =
    let h : i - 1 + 1 ≡ i = omega arith in
    let up = ascends (i - 1) (omega (arith, length-map fs (λ (f : Factor). f.row))) in
    omega (arith, here, up, row_at fs (i - 1) (omega arith), row_at fs i lt, ap (λ (n : ℕ). get_or (rows_of fs) n 0) h)
