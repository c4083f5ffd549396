-- What domains hold, how many values that is, and that a domain which changes loses one.
use Rattle.std.proofs.Common.{◌≡◌, ℕ, zero, suc, ◌+◌, ◌-◌, ◌<◌, ◌≤◌, min, max, Bool, true, false, ◌&&◌, cond, eqb, [], ◌∷◌, ◌++◌, length, get_or, refl, arith}
use Rattle.std.specs.List.{range_with_len, Contains}
use Rattle.std.proofs.lemmas.List.FromFn.{length-range_with_len, get_or-range_with_len}
use Rattle.std.proofs.lemmas.Bool.Decides.{nat_tests}
use Rattle.std.proofs.lemmas.Bool.{false≢true}
use Rattle.row_kit.specs.declared.domain.Domain.{Domain}
use Rattle.row_kit.specs.Domain.{Holds, IsNormal, values_of, count_of, normal, shared}
use Rattle.std.specs.Bool.{beq}
use Rattle.row_kit.specs.Area.{is_same}

pub length-values_of : (d : Domain) → length (values_of d) ≡ count_of d
length-values_of d =
    elim d.zero as (λ z. length (cond z (0 ∷ []) [] ++ range_with_len d.lo (d.hi + 1 - d.lo)) ≡ cond z 1 0 + (d.hi + 1 - d.lo)) [
      | true ↦ omega (arith, length-range_with_len d.lo (d.hi + 1 - d.lo))
      | false ↦ omega (arith, length-range_with_len d.lo (d.hi + 1 - d.lo))
    ]

Contains-range : (a n v : ℕ) → Contains (range_with_len a n) v → (a ≤ v) × (v < a + n)
Contains-range a n v w =
    let lt : w.0 < n = omega (arith, w.1, length-range_with_len a n) in
    let e = get_or-range_with_len a n w.0 v lt in
    (omega (arith, e, w.2), omega (arith, e, w.2))

range_contains : (a n v : ℕ) → a ≤ v → v < a + n → Contains (range_with_len a n) v
range_contains a n v low high =
    let lt : v - a < n = omega arith in
    let e = get_or-range_with_len a n (v - a) v lt in
    (v - a, omega (arith, length-range_with_len a n), omega (arith, e))

from_first : (lo n hi v k : ℕ) → 1 ≤ lo → n ≡ hi + 1 - lo → k < suc n → get_or (0 ∷ range_with_len lo n) k v ≡ v → Holds (record { zero = true; lo = lo; hi = hi }) v
from_first lo n hi v zero low e h at = record { at_zero = λ _. refl; above_zero = λ p. absurd (omega arith) }
from_first lo n hi v (suc k) low e h at =
    let lt : k < n = omega arith in
    let f = get_or-range_with_len lo n k v lt in
    record { at_zero = λ _. refl; above_zero = λ _. (omega arith, omega arith) }

pub Holds-from_values : (d : Domain) (v : ℕ) → 1 ≤ d.lo → Contains (values_of d) v → Holds d v
Holds-from_values d v low =
    elim d.zero as (λ z. Contains (cond z (0 ∷ []) [] ++ range_with_len d.lo (d.hi + 1 - d.lo)) v → Holds (record { zero = z; lo = d.lo; hi = d.hi }) v) [
      | true ↦ λ w. from_first d.lo (d.hi + 1 - d.lo) d.hi v w.0 low refl (omega (arith, w.1, length-range_with_len d.lo (d.hi + 1 - d.lo))) w.2
      | false ↦ λ w.
          let r = Contains-range d.lo (d.hi + 1 - d.lo) v w in
          record { at_zero = λ e. absurd (omega arith); above_zero = λ _. (omega arith, omega arith) }
    ]

positive_from : (v : ℕ) → (v ≡ 0 → ⊥) → 0 < v
positive_from v apart = omega (arith, apart)

in_first : (lo hi v : ℕ) → (0 < v → (lo ≤ v) × (v ≤ hi)) → Contains (0 ∷ range_with_len lo (hi + 1 - lo)) v
in_first lo hi zero h = (0, omega arith, refl)
in_first lo hi (suc v) h =
    let p : 0 < suc v = omega arith in
    let r = range_contains lo (hi + 1 - lo) (suc v) (h p).0 (omega (arith, h p)) in
    (suc r.0, omega (arith, r.1), r.2)

pub values-from_Holds : (d : Domain) (v : ℕ) → Holds d v → Contains (values_of d) v
values-from_Holds d v h =
    elim d.zero as (λ z. (v ≡ 0 → z ≡ true) → Contains (cond z (0 ∷ []) [] ++ range_with_len d.lo (d.hi + 1 - d.lo)) v) [
      | true ↦ λ _. in_first d.lo d.hi v h.above_zero
      | false ↦ λ none.
          let apart = λ (e : v ≡ 0). absurd (false≢true (none e)) in
          let p : 0 < v = positive_from v apart in
          range_contains d.lo (d.hi + 1 - d.lo) v (omega (arith, h.above_zero p)) (omega (arith, h.above_zero p))
    ]
    h.at_zero

pub values_are_held : (d : Domain) (v : ℕ) → 1 ≤ d.lo → (Contains (values_of d) v → Holds d v) × (Holds d v → Contains (values_of d) v)
values_are_held d v low = (Holds-from_values d v low, values-from_Holds d v)

pub ruleset counts = (length-values_of, values_are_held)

-- the values that a normal domain shares with another are fewer, unless they are all of its values
fewer : (y z : Bool) (l h m k : ℕ) → (h < l → (l ≡ 1) × (h ≡ 0)) → (beq y (normal (y && z) (max l m) (min h k)).zero && eqb l (normal (y && z) (max l m) (min h k)).lo && eqb h (normal (y && z) (max l m) (min h k)).hi) ≡ false → count_of (normal (y && z) (max l m) (min h k)) < cond y 1 0 + (h + 1 - l)
fewer true true l h m k bare e = grind (arith, nat_tests)
fewer true false l h m k bare e = grind (arith, nat_tests)
fewer false true l h m k bare e = grind (arith, nat_tests)
fewer false false l h m k bare e = grind (arith, nat_tests)

pub shared_fewer : (a b : Domain) → IsNormal a → is_same a (shared a b) ≡ false → count_of (shared a b) < count_of a
shared_fewer a b normal' e = fewer a.zero b.zero a.lo a.hi b.lo b.hi normal'.bare e
