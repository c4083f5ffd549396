-- Values of a slot: what one counts, what a function is at each of a list, and which a domain holds.
use Rattle.std.proofs.Common.{◌≡◌, ℕ, zero, suc, true, ◌<◌, ◌≤◌, eqb, List, ◌∷◌, length, map, get_or, refl, sym, ap, ◌∙◌, subst, arith, ℤ, pos, ◌+ℤ◌, ◌*ℤ◌, ◌⊎◌, inl, inr}
use Rattle.std.specs.List.{All, Contains}
use Rattle.std.proofs.lemmas.Bool.{cond-false, ne_eqb}
use Rattle.std.proofs.Math.IntN.{zero-*ℤ, +ℤ_idl}
use Rattle.std.proofs.lemmas.List.{get_or-map, length-map, get_or_default}
use Rattle.row_kit.specs.declared.domain.Domain.{Domain}
use Rattle.row_kit.specs.Domain.{Holds}
use Rattle.row_kit.specs.Row.{part_at}

-- a value of 1 or more counts the fixed part and the part for each quantum
pub part_above : (fixed per : ℤ) (v : ℕ) → 1 ≤ v → part_at (fixed, per) v ≡ fixed +ℤ (per *ℤ pos v)
part_above fixed per v some = cond-false (eqb v 0) (pos 0) (fixed +ℤ (per *ℤ pos v)) (ne_eqb v 0 (λ e. absurd (omega arith)))

-- no parts count nothing
pub part_at-nothing : (v : ℕ) → part_at (pos 0, pos 0) v ≡ pos 0
part_at-nothing zero = refl
part_at-nothing (suc v) = part_above (pos 0) (pos 0) (suc v) (omega arith) ∙ +ℤ_idl (pos 0 *ℤ pos (suc v)) ∙ zero-*ℤ (pos (suc v))

at_place : (P : ℤ → Type 0) (f : ℕ → ℤ) (v : ℕ) (vs : List ℕ) (w k : ℕ) → k < length (v ∷ vs) → get_or (v ∷ vs) k w ≡ w → P (f v) → All P (map f vs) → P (f w)
at_place P f v vs w zero within e first rest = subst (λ (x : ℕ). P (f x)) e first
at_place P f v vs w (suc k) within e first rest =
    let short : k < length vs = omega arith in
    subst P (get_or-map f vs k w (f w) short ∙ ap f e) (rest k (f w) (omega (arith, length-map vs f)))

-- what holds of the value at the first item and of those at the others holds of the value at each
pub at_each : (P : ℤ → Type 0) (f : ℕ → ℤ) (v : ℕ) (vs : List ℕ) (w : ℕ) → Contains (v ∷ vs) w → P (f v) → All P (map f vs) → P (f w)
at_each P f v vs w c first rest = at_place P f v vs w c.0 c.1 c.2 first rest

-- the value at the first item, or one of those at the others, is that at some item
pub reached_at : (f : ℕ → ℤ) (v : ℕ) (vs : List ℕ) (r : ℤ) → (r ≡ f v) ⊎ Contains (map f vs) r → (w : ℕ) × Contains (v ∷ vs) w × (f w ≡ r)
reached_at f v vs r either =
    elim either [
      | inl first ↦ (v, (0, omega arith, refl), sym first)
      | inr later ↦
          let k = later.0 in
          let short : k < length vs = omega (arith, later.1, length-map vs f) in
          (get_or vs k 0, (suc k, omega arith, get_or_default vs k (get_or vs k 0) 0 short), sym (get_or-map f vs k 0 r short) ∙ later.2)
    ]

-- each value of a domain is 0 or lies in its range
pub by_value : (d : Domain) (v : ℕ) → Holds d v → ((v ≡ 0) × (d.zero ≡ true)) ⊎ ((1 ≤ v) × (d.lo ≤ v) × (v ≤ d.hi))
by_value d zero h = inl (refl, h.at_zero refl)
by_value d (suc v) h = let p : 0 < suc v = omega arith in inr (omega arith, (h.above_zero p).0, (h.above_zero p).1)

-- a value of the range is held
pub in_range : (d : Domain) (v : ℕ) → 1 ≤ d.lo → d.lo ≤ v → v ≤ d.hi → Holds d v
in_range d v low h k = record { at_zero = λ e. absurd (omega arith); above_zero = λ _. (h, k) }
