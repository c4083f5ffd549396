-- What tests leave of domains.
use Rattle.std.proofs.Common.{◌≡◌, ℕ, zero, suc, ◌+◌, ◌-◌, ◌<◌, ◌≤◌, min, max, Bool, true, false, ◌&&◌, cond, leb, List, [], ◌∷◌, length, get_or, refl, sym, ap, ◌∙◌, subst, ⊎_elim, arith}
use Rattle.std.specs.List.{All}
use Rattle.std.proofs.lemmas.Bool.{cases_lt, cases_eq, cond-true, cond-false, false≢true}
use Rattle.std.proofs.lemmas.Bool.Decides.{nat_tests}
use Rattle.row_kit.specs.declared.domain.Domain.{Domain}
use Rattle.row_kit.specs.Domain.{Holds, IsNormal, count_of, normal, shared}
use Rattle.row_kit.specs.Points.{points_of}
use Rattle.row_kit.proofs.PointCounts.{shared_le}
use Rattle.std.proofs.lemmas.Nat.{mul-le}
use Rattle.dual_bound.specs.Trimmed.{each_passing, first_passing, last_passing, passing}

-- the first lies in the range, or right after it
pub first_within : (test : ℕ → Bool) (n lo : ℕ) → (lo ≤ first_passing test n lo) × (first_passing test n lo ≤ lo + n)
first_within test zero lo = (omega arith, omega arith)
first_within test (suc n) lo = step (test lo) (first_within test n (lo + 1))
  where
    step : (b : Bool) → (lo + 1 ≤ first_passing test n (lo + 1)) × (first_passing test n (lo + 1) ≤ lo + 1 + n) → (lo ≤ cond b lo (first_passing test n (lo + 1))) × (cond b lo (first_passing test n (lo + 1)) ≤ lo + suc n)
    step true rest = (omega arith, omega arith)
    step false rest = (omega (arith, rest.0), omega (arith, rest.1))

-- it is at most each that passes
pub first_le : (test : ℕ → Bool) (n lo v : ℕ) → lo ≤ v → v < lo + n → test v ≡ true → first_passing test n lo ≤ v
first_le test zero lo v low high pass = absurd (omega arith)
first_le test (suc n) lo v low high pass = step (test lo) refl (λ h k. first_le test n (lo + 1) v h k pass)
  where
    step : (b : Bool) → test lo ≡ b → (lo + 1 ≤ v → v < lo + 1 + n → first_passing test n (lo + 1) ≤ v) → cond b lo (first_passing test n (lo + 1)) ≤ v
    step true e rest = low
    step false e rest =
        ⊎_elim
        (λ (same : lo ≡ v). absurd (false≢true (sym e ∙ ap test same ∙ pass)))
        (λ (apart : lo ≡ v → ⊥). rest (omega (arith, low, apart)) (omega (arith, high)))
        (cases_eq lo v)

-- it passes, where it lies in the range
pub first_passes : (test : ℕ → Bool) (n lo : ℕ) → first_passing test n lo < lo + n → test (first_passing test n lo) ≡ true
first_passes test zero lo lt = absurd (omega arith)
first_passes test (suc n) lo lt = step (test lo) refl (first_passes test n (lo + 1)) lt
  where
    step : (b : Bool) → test lo ≡ b → (first_passing test n (lo + 1) < lo + 1 + n → test (first_passing test n (lo + 1)) ≡ true) → cond b lo (first_passing test n (lo + 1)) < lo + suc n → test (cond b lo (first_passing test n (lo + 1))) ≡ true
    step true e rest h = e
    step false e rest h = rest (omega (arith, h))

-- where the first value does not pass, the others are left
pub first_more : (test : ℕ → Bool) (n lo : ℕ) → test lo ≡ false → first_passing test (suc n) lo ≡ first_passing test n (lo + 1)
first_more test n lo e = cond-false (test lo) lo (first_passing test n (lo + 1)) e

-- the last lies in the range, or right before it
pub last_within : (test : ℕ → Bool) (n lo : ℕ) → (lo ≤ last_passing test n lo + 1) × (last_passing test n lo + 1 ≤ max 1 (lo + n))
last_within test zero lo = (omega arith, omega arith)
last_within test (suc n) lo = step (test (lo + n)) (last_within test n lo)
  where
    step : (b : Bool) → (lo ≤ last_passing test n lo + 1) × (last_passing test n lo + 1 ≤ max 1 (lo + n)) → (lo ≤ cond b (lo + n) (last_passing test n lo) + 1) × (cond b (lo + n) (last_passing test n lo) + 1 ≤ max 1 (lo + suc n))
    step true rest = (omega arith, omega arith)
    step false rest = (rest.0, omega (arith, rest.1))

-- it is at least each that passes
pub last_ge : (test : ℕ → Bool) (n lo v : ℕ) → lo ≤ v → v < lo + n → test v ≡ true → v ≤ last_passing test n lo
last_ge test zero lo v low high pass = absurd (omega arith)
last_ge test (suc n) lo v low high pass = step (test (lo + n)) refl (λ h. last_ge test n lo v low h pass)
  where
    step : (b : Bool) → test (lo + n) ≡ b → (v < lo + n → v ≤ last_passing test n lo) → v ≤ cond b (lo + n) (last_passing test n lo)
    step true e rest = omega (arith, high)
    step false e rest =
        ⊎_elim
        (λ (same : lo + n ≡ v). absurd (false≢true (sym e ∙ ap test same ∙ pass)))
        (λ (apart : lo + n ≡ v → ⊥). rest (omega (arith, high, apart)))
        (cases_eq (lo + n) v)

-- it passes, where it lies in the range
pub last_passes : (test : ℕ → Bool) (n lo : ℕ) → 1 ≤ lo → lo ≤ last_passing test n lo → test (last_passing test n lo) ≡ true
last_passes test zero lo some le = absurd (omega arith)
last_passes test (suc n) lo some le = step (test (lo + n)) refl (last_passes test n lo some) le
  where
    step : (b : Bool) → test (lo + n) ≡ b → (lo ≤ last_passing test n lo → test (last_passing test n lo) ≡ true) → lo ≤ cond b (lo + n) (last_passing test n lo) → test (cond b (lo + n) (last_passing test n lo)) ≡ true
    step true e rest h = e
    step false e rest h = rest h

-- where the last value does not pass, the others are left
pub last_more : (test : ℕ → Bool) (n lo v : ℕ) → v ≡ lo + n → test v ≡ false → last_passing test (suc n) lo ≡ last_passing test n lo
last_more test n lo v is e = cond-false (test (lo + n)) (lo + n) (last_passing test n lo) (ap test (sym is) ∙ e)

-- tests that agree on a range have the same first and last there
pub first_same : (test other : ℕ → Bool) (n lo : ℕ) → ((v : ℕ) → v < lo + n → test v ≡ other v) → first_passing test n lo ≡ first_passing other n lo
first_same test other zero lo agree = refl
first_same test other (suc n) lo agree =
    ap (λ (b : Bool). cond b lo (first_passing test n (lo + 1))) (agree lo (omega arith))
    ∙ ap (λ (x : ℕ). cond (other lo) lo x) (first_same test other n (lo + 1) (λ v lt. agree v (omega arith)))

pub last_same : (test other : ℕ → Bool) (n lo : ℕ) → ((v : ℕ) → v < lo + n → test v ≡ other v) → last_passing test n lo ≡ last_passing other n lo
last_same test other zero lo agree = refl
last_same test other (suc n) lo agree =
    ap (λ (b : Bool). cond b (lo + n) (last_passing test n lo)) (agree (lo + n) (omega arith))
    ∙ ap (λ (x : ℕ). cond (other (lo + n)) (lo + n) x) (last_same test other n lo (λ v lt. agree v (omega arith)))

-- the number of values of a domain's range
abbrev width : Domain → ℕ
width d = d.hi + 1 - d.lo

abbrev first_of : (ℕ → Bool) → Domain → ℕ
first_of test d = first_passing test (width d) d.lo

abbrev last_of : (ℕ → Bool) → Domain → ℕ
last_of test d = last_passing test (width d) d.lo

-- what a normal domain of two ends holds
normal_zero : (z : Bool) (l h : ℕ) → (normal z l h).zero ≡ z
normal_zero z l h = grind (arith, nat_tests)

normal_above : (z : Bool) (l h v : ℕ) → 0 < v → (normal z l h).lo ≤ v → v ≤ (normal z l h).hi → (l ≤ v) × (v ≤ h)
normal_above z l h v some low high = (grind (arith, nat_tests), grind (arith, nat_tests))

above_normal : (z : Bool) (l h v : ℕ) → l ≤ v → v ≤ h → ((normal z l h).lo ≤ v) × (v ≤ (normal z l h).hi)
above_normal z l h v low high = (grind (arith, nat_tests), grind (arith, nat_tests))

normal_normal : (z : Bool) (l h : ℕ) → 1 ≤ l → (l ≤ h → h ≤ 255) → IsNormal (normal z l h)
normal_normal z l h low high =
    ⊎_elim
    (λ (none : h < l).
    let e : leb l h ≡ false = grind (arith, nat_tests) in
    subst IsNormal (sym (cond-false (leb l h) (record { zero = z; lo = l; hi = h }) (record { zero = z; lo = 1; hi = 0 }) e)) (record { positive = omega arith; byte = omega arith; bare = λ _. (refl, refl) }))
    (λ (some : l ≤ h).
    let e : leb l h ≡ true = grind (arith, nat_tests) in
    subst IsNormal (sym (cond-true (leb l h) (record { zero = z; lo = l; hi = h }) (record { zero = z; lo = 1; hi = 0 }) e)) (record { positive = low; byte = high some; bare = λ less. absurd (omega (arith, less, some)) }))
    (cases_lt h l)

both_true : (a b : Bool) → a ≡ true → b ≡ true → (a && b) ≡ true
both_true a b e h = cc

first_true : (a b : Bool) → (a && b) ≡ true → a ≡ true
first_true true b h = refl
first_true false b h = h

second_true : (a b : Bool) → (a && b) ≡ true → b ≡ true
second_true true b h = h
second_true false b h = absurd (false≢true h)

-- a value that passes is left
pub passing_holds : (test : ℕ → Bool) (d : Domain) (v : ℕ) → Holds d v → test v ≡ true → Holds (passing test d) v
unfolding passing
passing_holds test d v h pass = record {
  at_zero = λ e. normal_zero (d.zero && test 0) (first_of test d) (last_of test d) ∙ both_true d.zero (test 0) (h.at_zero e) (ap test (sym e) ∙ pass);
  above_zero = λ some.
      let range = h.above_zero some in
      let lt : v < d.lo + width d = omega (arith, range.0, range.1) in
      above_normal (d.zero && test 0) (first_of test d) (last_of test d) v (first_le test (width d) d.lo v range.0 lt pass) (last_ge test (width d) d.lo v range.0 lt pass);
}

-- what is left was there
pub passing_within : (test : ℕ → Bool) (d : Domain) (v : ℕ) → 1 ≤ d.lo → Holds (passing test d) v → Holds d v
unfolding passing
passing_within test d v low h = record {
  at_zero = λ e. first_true d.zero (test 0) (sym (normal_zero (d.zero && test 0) (first_of test d) (last_of test d)) ∙ h.at_zero e);
  above_zero = λ some.
      let range = h.above_zero some in
      let ends = normal_above (d.zero && test 0) (first_of test d) (last_of test d) v some range.0 range.1 in
      let first = first_within test (width d) d.lo in
      let last = last_within test (width d) d.lo in
      (omega (arith, ends.0, first.0), omega (arith, low, some, ends.0, ends.1, first.0, last.1));
}

-- where a test that passes at two values passes between them, what is left passes
pub passing_passes : (test : ℕ → Bool) (d : Domain) (v : ℕ) → 1 ≤ d.lo → ((a b v : ℕ) → 1 ≤ a → a ≤ v → v ≤ b → b ≤ d.hi → test a ≡ true → test b ≡ true → test v ≡ true) → Holds (passing test d) v → test v ≡ true
unfolding passing
passing_passes test d v low between h =
    ⊎_elim
    (λ (zero' : v ≡ 0). ap test zero' ∙ second_true d.zero (test 0) (sym (normal_zero (d.zero && test 0) (first_of test d) (last_of test d)) ∙ h.at_zero zero'))
    (λ (apart : v ≡ 0 → ⊥).
    let some : 0 < v = positive v apart in
    let range = h.above_zero some in
    let ends = normal_above (d.zero && test 0) (first_of test d) (last_of test d) v some range.0 range.1 in
    let first = first_within test (width d) d.lo in
    let last = last_within test (width d) d.lo in
    between (first_of test d) (last_of test d) v (omega (arith, low, first.0)) ends.0 ends.1 (omega (arith, low, ends.0, ends.1, first.0, last.1))
    (first_passes test (width d) d.lo (omega (arith, low, some, ends.0, ends.1, first.0, last.1)))
    (last_passes test (width d) d.lo low (omega (arith, first.0, ends.0, ends.1))))
    (cases_eq v 0)
  where
    positive : (v : ℕ) → (v ≡ 0 → ⊥) → 0 < v
    positive v h = omega (arith, h)

-- what is left of a normal domain is normal
pub passing_normal : (test : ℕ → Bool) (d : Domain) → IsNormal d → IsNormal (passing test d)
unfolding passing
passing_normal test d n =
    let first = first_within test (width d) d.lo in
    let last = last_within test (width d) d.lo in
    normal_normal (d.zero && test 0) (first_of test d) (last_of test d) (omega (arith, first.0, n.positive)) (λ some. omega (arith, some, first.0, last.1, n.positive, n.byte))

-- tests that agree on a domain leave the same of it
pub passing_same : (test other : ℕ → Bool) (d : Domain) → IsNormal d → ((v : ℕ) → v ≤ 255 → test v ≡ other v) → passing test d ≡ passing other d
unfolding passing
passing_same test other d n agree =
    let within : (v : ℕ) → v < d.lo + width d → test v ≡ other v = λ v lt. agree v (bytes d n v lt) in
    ap (λ (b : Bool). normal (d.zero && b) (first_of test d) (last_of test d)) (agree 0 (omega arith))
    ∙ ap (λ (x : ℕ). normal (d.zero && other 0) x (last_of test d)) (first_same test other (width d) d.lo within)
    ∙ ap (λ (x : ℕ). normal (d.zero && other 0) (first_of other d) x) (last_same test other (width d) d.lo within)
  where
    bytes : (d : Domain) → IsNormal d → (v : ℕ) → v < d.lo + width d → v ≤ 255
    bytes d n v lt =
        ⊎_elim (λ (bare : d.hi < d.lo). omega (arith, (n.bare bare).0, (n.bare bare).1)) (λ (some : d.lo ≤ d.hi). omega (arith, n.byte)) (cases_lt d.hi d.lo)

-- what a domain shares with the values from its first to its last that passes
shared_some : (y t : Bool) (l h a b : ℕ) → l ≤ a → a ≤ b → b ≤ h → shared (record { zero = y; lo = l; hi = h }) (normal t a b) ≡ normal (y && t) a b
shared_some y t l h a b p q r =
    let ab : leb a b ≡ true = grind (arith, nat_tests) in
    let e : max l a ≡ a = omega arith in
    let f : min h b ≡ b = omega arith in
    ap (shared (record { zero = y; lo = l; hi = h })) (cond-true (leb a b) (record { zero = t; lo = a; hi = b }) (record { zero = t; lo = 1; hi = 0 }) ab)
    ∙ ap (λ (x : ℕ). normal (y && t) x (min h b)) e ∙ ap (normal (y && t) a) f

shared_none : (y t : Bool) (l h a b : ℕ) → b < a → shared (record { zero = y; lo = l; hi = h }) (normal t 1 0) ≡ normal (y && t) a b
shared_none y t l h a b less =
    let ab : leb a b ≡ false = grind (arith, nat_tests) in
    let part : leb (max l 1) (min h 0) ≡ false = grind (arith, nat_tests) in
    cond-false (leb (max l 1) (min h 0)) (record { zero = y && t; lo = max l 1; hi = min h 0 }) (record { zero = y && t; lo = 1; hi = 0 }) part
    ∙ sym (cond-false (leb a b) (record { zero = y && t; lo = a; hi = b }) (record { zero = y && t; lo = 1; hi = 0 }) ab)

pub passing_some : (test : ℕ → Bool) (d : Domain) → IsNormal d → first_passing test (d.hi + 1 - d.lo) d.lo ≤ d.hi → shared d (normal (test 0) (first_passing test (d.hi + 1 - d.lo) d.lo) (last_passing test (d.hi + 1 - d.lo) d.lo)) ≡ passing test d
unfolding passing
passing_some test d n le =
    let first = first_within test (width d) d.lo in
    let last = last_within test (width d) d.lo in
    let lt : first_of test d < d.lo + width d = omega (arith, first.0, le) in
    shared_some d.zero (test 0) d.lo d.hi (first_of test d) (last_of test d) first.0
    (last_ge test (width d) d.lo (first_of test d) first.0 lt (first_passes test (width d) d.lo lt))
    (omega (arith, last.1, first.0, le, n.positive))

pub passing_none : (test : ℕ → Bool) (d : Domain) → IsNormal d → d.hi < first_passing test (d.hi + 1 - d.lo) d.lo → shared d (normal (test 0) 1 0) ≡ passing test d
unfolding passing
passing_none test d n lt =
    let last = last_within test (width d) d.lo in
    let first = first_within test (width d) d.lo in
    shared_none d.zero (test 0) d.lo d.hi (first_of test d) (last_of test d) (short d n (first_of test d) (last_of test d) first.0 last.1 lt)
  where
    short : (d : Domain) → IsNormal d → (f l : ℕ) → d.lo ≤ f → l + 1 ≤ max 1 (d.lo + width d) → d.hi < f → l < f
    short d n f l first last lt =
        ⊎_elim (λ (bare : d.hi < d.lo). omega (arith, (n.bare bare).0, (n.bare bare).1, n.positive)) (λ (some : d.lo ≤ d.hi). omega (arith, n.positive)) (cases_lt d.hi d.lo)

-- what tests leave of each domain
pub each-length : (test : ℕ → ℕ → Bool) (i : ℕ) (ds : List Domain) → length (each_passing test i ds) ≡ length ds
each-length test i [] = refl
each-length test i (d ∷ ds) = ap suc (each-length test (i + 1) ds)

pub each-at : (test : ℕ → ℕ → Bool) (i : ℕ) (ds : List Domain) (k : ℕ) (x : Domain) → k < length ds → get_or (each_passing test i ds) k x ≡ passing (test (i + k)) (get_or ds k x)
each-at test i [] k x lt = absurd (omega arith)
each-at test i (d ∷ ds) zero x lt = ap (λ (j : ℕ). passing (test j) d) (let e : i ≡ i + 0 = omega arith in e)
each-at test i (d ∷ ds) (suc k) x lt =
    each-at test (i + 1) ds k x (omega arith) ∙ ap (λ (j : ℕ). passing (test j) (get_or ds k x)) (let e : i + 1 + k ≡ i + suc k = omega arith in e)

pub each-normal : (test : ℕ → ℕ → Bool) (i : ℕ) (ds : List Domain) → All IsNormal ds → All IsNormal (each_passing test i ds)
each-normal test i ds n k x lt =
    let short : k < length ds = omega (arith, lt, each-length test i ds) in
    subst IsNormal (sym (each-at test i ds k x short)) (passing_normal (test (i + k)) (get_or ds k x) (n k x short))

pub each-same : (test other : ℕ → ℕ → Bool) (i : ℕ) (ds : List Domain) → All IsNormal ds → ((k v : ℕ) → k < i + length ds → v ≤ 255 → test k v ≡ other k v) → each_passing test i ds ≡ each_passing other i ds
each-same test other i [] n agree = refl
each-same test other i (d ∷ ds) n agree =
    ap (λ (x : Domain). x ∷ each_passing test (i + 1) ds) (passing_same (test i) (other i) d (n 0 d (omega arith)) (λ v le. agree i v (omega arith) le))
    ∙ ap (λ (xs : List Domain). passing (other i) d ∷ xs) (each-same test other (i + 1) ds (λ k x lt. n (suc k) x (omega arith)) (λ k v lt le. agree k v (omega arith) le))

-- no values and no points are gained
pub passing_fewer : (test : ℕ → Bool) (d : Domain) → IsNormal d → count_of (passing test d) ≤ count_of d
passing_fewer test d n =
    ⊎_elim
    (λ (none : d.hi < first_passing test (d.hi + 1 - d.lo) d.lo). subst (λ (x : Domain). count_of x ≤ count_of d) (passing_none test d n none) (shared_le d (normal (test 0) 1 0)))
    (λ (some : first_passing test (d.hi + 1 - d.lo) d.lo ≤ d.hi).
    subst (λ (x : Domain). count_of x ≤ count_of d) (passing_some test d n some) (shared_le d (normal (test 0) (first_passing test (d.hi + 1 - d.lo) d.lo) (last_passing test (d.hi + 1 - d.lo) d.lo))))
    (cases_lt d.hi (first_passing test (d.hi + 1 - d.lo) d.lo))

pub each-fewer : (test : ℕ → ℕ → Bool) (i : ℕ) (ds : List Domain) → All IsNormal ds → points_of (each_passing test i ds) ≤ points_of ds
each-fewer test i [] n = omega arith
each-fewer test i (d ∷ ds) n =
    mul-le (count_of (passing (test i) d)) (points_of (each_passing test (i + 1) ds)) (count_of d) (points_of ds) (passing_fewer (test i) d (n 0 d (omega arith)))
    (each-fewer test (i + 1) ds (λ k x lt. n (suc k) x (omega arith)))
