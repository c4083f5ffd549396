-- The first place of a list that passes a test.
use Rattle.std.proofs.Common.{◌≡◌, ℕ, ◌<◌, List, length, get_or, arith, Bool, true, false, ltb, cond, Some, None, ap, sym, ◌∙◌, inl, inr}
use Rattle.std.specs.Prelude.{position}
use Rattle.std.specs.List.{position_or_len}
use Rattle.std.proofs.lemmas.Bool.{cases_lt, lt-ltb, le-ltb}
use Rattle.std.proofs.lemmas.List.Sums.{position_or_len_is, fails_before_first, passes_at_first}

pub position_here : {X : Type 0} (p : X → Bool) (xs : List X) (i : ℕ) (d : X) → i < length xs → ((k : ℕ) → k < i → p (get_or xs k d) ≡ false) → p (get_or xs i d) ≡ true → position p xs ≡ Some i
position_here p xs i d there before here =
    let first : position_or_len p xs ≡ i = position_or_len_is p xs i d (omega arith) before (λ h. here) in
    let yes : ltb i (length xs) ≡ true = lt-ltb i (length xs) there in
    ap (λ (k : ℕ). cond (ltb k (length xs)) (Some k) None) first ∙ ap (λ (b : Bool). cond b (Some i) None) yes

pub position_nowhere : {X : Type 0} (p : X → Bool) (xs : List X) (d : X) → ((k : ℕ) → k < length xs → p (get_or xs k d) ≡ false) → position p xs ≡ None
position_nowhere p xs d none =
    let first : position_or_len p xs ≡ length xs = position_or_len_is p xs (length xs) d (omega arith) none (λ h. absurd (omega arith)) in
    let out : ltb (length xs) (length xs) ≡ false = le-ltb (length xs) (length xs) (omega arith) in
    ap (λ (k : ℕ). cond (ltb k (length xs)) (Some k) None) first ∙ ap (λ (b : Bool). cond b (Some (length xs)) None) out

-- two tests that agree on the items find the same place
pub position_agree : {X : Type 0} (p q : X → Bool) (xs : List X) (d : X) → ((k : ℕ) → k < length xs → p (get_or xs k d) ≡ q (get_or xs k d)) → position p xs ≡ position q xs
position_agree p q xs d same =
    elim (cases_lt (position_or_len q xs) (length xs)) [
      | inl l ↦
          (let i = position_or_len q xs in
          let before : (k : ℕ) → k < i → q (get_or xs k d) ≡ false = λ k h. fails_before_first q xs k d h in
          let here : q (get_or xs i d) ≡ true = passes_at_first q xs d l in
          position_here p xs i d l (λ k h. same k (omega arith) ∙ before k h) (same i l ∙ here) ∙ sym (position_here q xs i d l before here))
      | inr g ↦
          (let none : (k : ℕ) → k < length xs → q (get_or xs k d) ≡ false = λ k h. fails_before_first q xs k d (omega arith) in
          position_nowhere p xs d (λ k h. same k h ∙ none k h) ∙ sym (position_nowhere q xs d none))
    ]

-- where no place is found, no item passes
pub position_none : {X : Type 0} (p : X → Bool) (xs : List X) (d : X) → position p xs ≡ None → (k : ℕ) → k < length xs → p (get_or xs k d) ≡ false
position_none p xs d e k h = elim (cases_lt (position_or_len p xs) (length xs)) [
  | inl l ↦
      (let some : Some (position_or_len p xs) ≡ None = ap (λ (b : Bool). cond b (Some (position_or_len p xs)) None) (sym (lt-ltb (position_or_len p xs) (length xs) l)) ∙ e in
      let f : ⊥ = cc in absurd f)
  | inr g ↦ fails_before_first p xs k d (omega arith)
]
