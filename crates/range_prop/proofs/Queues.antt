-- The row that has waited longest leaves a queue.
use Rattle.std.proofs.Common.{◌≡◌, ℕ, ◌<◌, ◌≤◌, Bool, true, false, ◌||◌, cond, eqb, List, ◌∷◌, length, get_or, set, sym, ap, ◌∙◌, ⊎_elim, arith}
use Rattle.std.specs.List.{list_any, sum_by}
use Rattle.std.proofs.lemmas.Bool.{cases_eq, false≢true, ne_eqb}
use Rattle.std.proofs.lemmas.List.{get_or-set_same, get_or-set_other}
use Rattle.std.proofs.lemmas.List.Sums.{sum_by-set}

second_of : (a b : Bool) → a ≡ false → (a || b) ≡ true → b ≡ true
second_of true b e h = absurd (false≢true (sym e))
second_of false b e h = h

-- each other row that waits is still there
pub left_held : (rows rest : List ℕ) (waiting : List Bool) (row : ℕ) → rows ≡ row ∷ rest → row < length waiting → ((r : ℕ) → get_or waiting r false ≡ true → list_any (λ x. eqb x r) rows ≡ true) → (r : ℕ) → get_or (set waiting row false) r false ≡ true → list_any (λ x. eqb x r) rest ≡ true
left_held rows rest waiting row is lt held r h =
    ⊎_elim
    (λ (here : r ≡ row). absurd (false≢true (sym (ap (λ (n : ℕ). get_or (set waiting row false) n false) here ∙ get_or-set_same waiting row false false lt) ∙ h)))
    (λ (apart : r ≡ row → ⊥).
    let was = held r (sym (get_or-set_other waiting row r false false apart) ∙ h) in
    second_of (eqb row r) (list_any (λ x. eqb x r) rest) (ne_eqb row r (λ q. apart (sym q))) (sym (ap (list_any (λ (x : ℕ). eqb x r)) is) ∙ was))
    (cases_eq r row)

at_most_one : (b : Bool) → cond b 1 0 ≤ 1
at_most_one true = omega arith
at_most_one false = omega arith

-- no more rows are there than wait
pub left_few : (rows rest : List ℕ) (waiting : List Bool) (row : ℕ) → rows ≡ row ∷ rest → row < length waiting → length rows ≤ sum_by (λ b. cond b 1 0) waiting → length rest ≤ sum_by (λ b. cond b 1 0) (set waiting row false)
left_few rows rest waiting row is lt few =
    let change = sum_by-set (λ (b : Bool). cond b 1 0) waiting row false false lt in
    omega (arith, few, change, at_most_one (get_or waiting row false), ap length is)
