-- What is known of the first item of a list that is put together of pieces.
use Rattle.std.proofs.Common.{◌≡◌, ℕ, zero, suc, ◌<◌, List, [], ◌∷◌, ◌++◌, arith, refl, sym, ap, ◌∙◌, subst, Bool, cond, inl, inr}
use Rattle.std.proofs.lemmas.Bool.{cases_lt, lt-ltb, le-ltb}
use Rattle.plan_violations.specs.Lists.{listed_amount, listed_below}

-- the first item, where there is one, has a property
abbrev pub Leads : {Y : Type 0} → (Y → Type 0) → List Y → Type 0
Leads P [] = Unit {0}
Leads P (y ∷ ys) = P y

pub append_none : {Y : Type 0} (xs ys : List Y) → xs ++ ys ≡ [] → (xs ≡ []) × (ys ≡ [])
append_none [] ys e = (refl, e)
append_none (x ∷ xs) ys e = let f : ⊥ = cc in absurd f

pub leads_append : {Y : Type 0} (P : Y → Type 0) (xs ys : List Y) → Leads P xs → (xs ≡ [] → Leads P ys) → Leads P (xs ++ ys)
leads_append P [] ys first then = then refl
leads_append P (x ∷ xs) ys first then = first

-- where nothing is listed below n, each number lists nothing
pub below_none : {Y : Type 0} (f : ℕ → List Y) (n : ℕ) → listed_below f n ≡ [] → (k : ℕ) → k < n → f k ≡ []
below_none f zero e k h = absurd (omega arith)
below_none f (suc n) e k h =
    let both = append_none (listed_below f n) (f n) e in
    elim (cases_lt k n) [
      | inl l ↦ below_none f n both.0 k l
      | inr g ↦ (let same : k ≡ n = omega arith in ap f same ∙ both.1)
    ]

-- what is listed below n leads, where each does to which nothing was listed before
pub leads_below : {Y : Type 0} (P : Y → Type 0) (f : ℕ → List Y) (n : ℕ) → ((k : ℕ) → k < n → ((j : ℕ) → j < k → f j ≡ []) → Leads P (f k)) → Leads P (listed_below f n)
leads_below P f zero each = tt
leads_below P f (suc n) each =
    leads_append P (listed_below f n) (f n) (leads_below P f n (λ k h. each k (omega arith))) (λ none. each n (omega arith) (below_none f n none))

-- two rules that list the same of each number
pub below_same : {Y : Type 0} (f g : ℕ → List Y) (n : ℕ) → ((k : ℕ) → k < n → f k ≡ g k) → listed_below f n ≡ listed_below g n
below_same f g zero same = refl
below_same f g (suc n) same =
    ap (λ xs. xs ++ f n) (below_same f g n (λ k h. same k (omega arith))) ∙ ap (λ ys. listed_below g n ++ ys) (same n (omega arith))

pub leads_amount : {Y : Type 0} (P : Y → Type 0) (say : ℕ → Y) (amount : ℕ) → (0 < amount → P (say amount)) → Leads P (listed_amount say amount)
leads_amount P say amount each = elim (cases_lt 0 amount) [
  | inl l ↦ subst (λ (b : Bool). Leads P (cond b (say amount ∷ []) [])) (sym (lt-ltb 0 amount l)) (each l)
  | inr g ↦ subst (λ (b : Bool). Leads P (cond b (say amount ∷ []) [])) (sym (le-ltb 0 amount g)) tt
]

pub amount_none : {Y : Type 0} (say : ℕ → Y) (amount : ℕ) → listed_amount say amount ≡ [] → amount ≡ 0
amount_none say amount e = elim (cases_lt 0 amount) [
  | inl l ↦ (let there : say amount ∷ [] ≡ [] = ap (λ (b : Bool). cond b (say amount ∷ []) []) (sym (lt-ltb 0 amount l)) ∙ e in
      let f : ⊥ = cc in absurd f)
  | inr g ↦ omega arith
]
