-- The two parts of a domain, and that they have all its values.
use Rattle.std.proofs.Common.{◌≡◌, ℕ, zero, suc, ◌+◌, ◌<◌, ◌≤◌, max, min, Bool, true, false, ◌&&◌, cond, leb, refl, arith}
use Rattle.std.proofs.lemmas.Bool.Decides.{nat_tests}
use Rattle.row_kit.specs.declared.domain.Domain.{Domain}
use Rattle.row_kit.specs.Domain.{Holds, IsNormal, normal, over, shared, up_to}

normal_normal : (z : Bool) (l h : ℕ) → 1 ≤ l → h ≤ 255 → IsNormal (normal z l h)
normal_normal z l h low high = by_test (leb l h) refl
  where
    by_test : (t : Bool) → leb l h ≡ t → IsNormal (cond t (record { zero = z; lo = l; hi = h }) (record { zero = z; lo = 1; hi = 0 }))
    by_test true e = let le : l ≤ h = grind (arith, nat_tests) in record { positive = low; byte = high; bare = λ less. absurd (omega arith) }
    by_test false e = record { positive = omega arith; byte = omega arith; bare = λ less. (refl, refl) }

-- what a normal domain shares with another is normal
pub shared_normal : (a b : Domain) → IsNormal a → IsNormal (shared a b)
shared_normal a b n = normal_normal (a.zero && b.zero) (max a.lo b.lo) (min a.hi b.hi) (omega (arith, n.positive)) (omega (arith, n.byte))

both_true : (a b : Bool) → a ≡ true → b ≡ true → (a && b) ≡ true
both_true a b e h = cc

normal_holds : (z : Bool) (l h v : ℕ) → (v ≡ 0 → z ≡ true) → (0 < v → (l ≤ v) × (v ≤ h)) → Holds (normal z l h) v
normal_holds z l h v at_zero above = by_test (leb l h) refl
  where
    by_test : (t : Bool) → leb l h ≡ t → Holds (cond t (record { zero = z; lo = l; hi = h }) (record { zero = z; lo = 1; hi = 0 })) v
    by_test true e = record { at_zero = at_zero; above_zero = above }
    by_test false e = record { at_zero = at_zero; above_zero = λ some. let r = above some in absurd (grind (arith, nat_tests, r.0, r.1)) }

-- a value that two domains hold is shared
pub shared_holds : (a b : Domain) (v : ℕ) → Holds a v → Holds b v → Holds (shared a b) v
shared_holds a b v h k =
    normal_holds (a.zero && b.zero) (max a.lo b.lo) (min a.hi b.hi) v (λ e. both_true a.zero b.zero (h.at_zero e) (k.at_zero e))
    (λ some. let r = h.above_zero some in let s = k.above_zero some in (omega (arith, r.0, s.0), omega (arith, r.1, s.1)))

-- and a value that is shared both domains hold; here the first
pub shared_within : (a b : Domain) (v : ℕ) → Holds (shared a b) v → Holds a v
shared_within a b v = by_test (leb (max a.lo b.lo) (min a.hi b.hi)) refl
  where
    first : (y z : Bool) → (y && z) ≡ true → y ≡ true
    first true z h = refl
    first false z h = absurd (cc)

    by_test : (t : Bool) → leb (max a.lo b.lo) (min a.hi b.hi) ≡ t → Holds (cond t (record { zero = a.zero && b.zero; lo = max a.lo b.lo; hi = min a.hi b.hi }) (record { zero = a.zero && b.zero; lo = 1; hi = 0 })) v → Holds a v
    by_test true e h = record { at_zero = λ is. first a.zero b.zero (h.at_zero is); above_zero = λ some. let r = h.above_zero some in (omega (arith, r.0), omega (arith, r.1)) }
    by_test false e h = record { at_zero = λ is. first a.zero b.zero (h.at_zero is); above_zero = λ some. let r = h.above_zero some in absurd (omega (arith, r.0, r.1)) }

pub up_to_holds : (m v : ℕ) → v ≤ m → Holds (up_to m) v
up_to_holds m v h = normal_holds true 1 m v (λ e. refl) (λ some. (omega (arith, some), h))

pub over_holds : (m v : ℕ) → m < v → v ≤ 255 → Holds (over m) v
over_holds m v h k = normal_holds false (m + 1) 255 v (λ e. absurd (omega arith)) (λ some. (omega (arith, h), k))

-- a normal domain holds bytes
pub held_byte : (d : Domain) (v : ℕ) → IsNormal d → Holds d v → v ≤ 255
held_byte d zero n h = omega arith
held_byte d (suc v) n h = let p : 0 < suc v = omega arith in omega (arith, n.byte, (h.above_zero p).1)
