-- Sums over the slots of a point.
use Rattle.std.proofs.Common.{◌≡◌, ℕ, zero, suc, ◌+◌, ◌<◌, cond, eqb, List, [], ◌∷◌, length, get_or, refl, sym, arith, ℤ, pos, ◌+ℤ◌, ◌*ℤ◌, ◌≤ℤ◌}
use Rattle.std.proofs.lemmas.Bool.{cond-true, cond-false, eq-eqb, ne_eqb}
use Rattle.std.proofs.lemmas.Int.{ints}
use Rattle.std.proofs.Math.IntN.{*ℤ-zero}
use Rattle.row_kit.specs.declared.row.Entry.{Entry}
use Rattle.row_kit.specs.Row.{counted, entries_sum, entry_at}
use Rattle.derived_rows.proofs.Products.{times_add}

-- the sum of what a function says of each slot at its value, from a slot on
abbrev pub over_slots : (ℕ → ℕ → ℤ) → ℕ → List ℕ → ℤ
over_slots f slot [] = pos 0
over_slots f slot (v ∷ vs) = f slot v +ℤ over_slots f (slot + 1) vs

pub over_nothing : (i : ℕ) (vs : List ℕ) → over_slots (λ s v. pos 0) i vs ≡ pos 0
over_nothing i [] = refl
over_nothing i (v ∷ vs) = omega (arith, ints, over_nothing (i + 1) vs)

-- a function that is the sum of two at each slot
pub over_sum : (f g h : ℕ → ℕ → ℤ) → ((s v : ℕ) → h s v ≡ f s v +ℤ g s v) → (i : ℕ) (vs : List ℕ) → over_slots h i vs ≡ over_slots f i vs +ℤ over_slots g i vs
over_sum f g h is i [] = refl
over_sum f g h is i (v ∷ vs) = omega (arith, ints, is i v, over_sum f g h is (i + 1) vs)

-- a product at each slot
pub over_times : (y : ℤ) (f : ℕ → ℕ → ℤ) (i : ℕ) (vs : List ℕ) → over_slots (λ s v. y *ℤ f s v) i vs ≡ y *ℤ over_slots f i vs
over_times y f i [] = sym (*ℤ-zero y)
over_times y f i (v ∷ vs) = omega (arith, ints, over_times y f (i + 1) vs, times_add y (f i v) (over_slots f (i + 1) vs))

-- what is at most at each slot of a point
pub over_le : (f g : ℕ → ℕ → ℤ) (i : ℕ) (vs : List ℕ) → ((k : ℕ) → k < length vs → f (i + k) (get_or vs k 0) ≤ℤ g (i + k) (get_or vs k 0)) → over_slots f i vs ≤ℤ over_slots g i vs
over_le f g i [] le = omega (arith, ints)
over_le f g i (v ∷ vs) le =
    let here : f i v ≤ℤ g i v = first i v (le 0 (omega arith)) in
    omega (arith, ints, here, over_le f g (i + 1) vs (λ k lt. later k (le (suc k) (omega arith))))
  where
    first : (i v : ℕ) → f (i + 0) v ≤ℤ g (i + 0) v → f i v ≤ℤ g i v
    first i v h = let e : i + 0 ≡ i = omega arith in rw e at h

    later : (k : ℕ) → f (i + suc k) (get_or vs k 0) ≤ℤ g (i + suc k) (get_or vs k 0) → f (i + 1 + k) (get_or vs k 0) ≤ℤ g (i + 1 + k) (get_or vs k 0)
    later k h = let e : i + suc k ≡ i + 1 + k = omega arith in rw e at h

-- what one entry counts of a slot at a value
abbrev at_slot : Entry → ℕ → ℕ → ℤ
at_slot e s v = cond (eqb e.slot s) (counted e v) (pos 0)

elsewhere : (e : Entry) (s v : ℕ) → (e.slot ≡ s → ⊥) → at_slot e s v ≡ pos 0
elsewhere e s v h = cond-false (eqb e.slot s) (counted e v) (pos 0) (ne_eqb e.slot s h)

behind : (e : Entry) (i : ℕ) (vs : List ℕ) → e.slot < i → over_slots (at_slot e) i vs ≡ pos 0
behind e i [] h = refl
behind e i (v ∷ vs) h = omega (arith, ints, elsewhere e i v (λ q. absurd (omega arith)), behind e (i + 1) vs (omega arith))

ahead : (e : Entry) (i k : ℕ) (vs : List ℕ) → e.slot ≡ i + k → over_slots (at_slot e) i vs ≡ counted e (get_or vs k 0)
ahead e i k [] h = refl
ahead e i zero (v ∷ vs) h =
    omega (arith, ints, cond-true (eqb e.slot i) (counted e v) (pos 0) (eq-eqb e.slot i (omega arith)), behind e (i + 1) vs (omega arith))
ahead e i (suc k) (v ∷ vs) h = omega (arith, ints, elsewhere e i v (λ q. absurd (omega arith)), ahead e (i + 1) k vs (omega arith))

-- over all slots entries count what they sum to
pub over_entries : (es : List Entry) (point : List ℕ) → over_slots (entry_at es) 0 point ≡ entries_sum es point
over_entries [] point = over_nothing 0 point
over_entries (e ∷ es) point =
    omega (arith, ints, over_sum (at_slot e) (entry_at es) (entry_at (e ∷ es)) (λ s v. refl) 0 point, ahead e 0 e.slot point (omega arith), over_entries es point)
