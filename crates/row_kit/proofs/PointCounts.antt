-- How many points are left where a domain narrows, on the two sides of a split, and where each domain has one value.
use Rattle.std.proofs.Common.{◌≡◌, ℕ, zero, suc, ◌+◌, ◌-◌, ◌*◌, ◌<◌, ◌≤◌, max, min, Bool, true, false, ◌&&◌, cond, leb, List, [], ◌∷◌, length, set, refl, ap, ⊎_elim, arith, sym, ◌∙◌}
use Rattle.std.specs.List.{All, Any}
use Rattle.std.proofs.Math.Nat.{mul-le-mul}
use Rattle.std.proofs.lemmas.Bool.{cases_eq}
use Rattle.std.proofs.lemmas.Bool.Decides.{nat_tests}
use Rattle.std.proofs.lemmas.List.{get_or_default}
use Rattle.std.proofs.lemmas.List.Elements.{All-head, All-tail}
use Rattle.row_kit.specs.declared.domain.Domain.{Domain}
use Rattle.row_kit.specs.Domain.{IsNormal, IsBare, IsOpen, IsSingle, count_of, domain_at, no_values, normal, over, shared, up_to}
use Rattle.row_kit.specs.Points.{kept_at, points_of}

-- a domain with no more values leaves no more points
pub points-set_le : (ds : List Domain) (slot : ℕ) (d : Domain) → count_of d ≤ count_of (domain_at ds slot) → points_of (set ds slot d) ≤ points_of ds
points-set_le [] slot d h = omega arith
points-set_le (x ∷ ds) zero d h = mul-le-mul h (omega arith)
points-set_le (x ∷ ds) (suc slot) d h = mul-le-mul (omega arith) (points-set_le ds slot d h)

normal_count : (z : Bool) (l h : ℕ) → count_of (normal z l h) ≤ cond z 1 0 + (h + 1 - l)
normal_count z l h = by_test (leb l h) refl
  where
    by_test : (t : Bool) → leb l h ≡ t → count_of (cond t (record { zero = z; lo = l; hi = h }) (record { zero = z; lo = 1; hi = 0 })) ≤ cond z 1 0 + (h + 1 - l)
    by_test true e = omega arith
    by_test false e = omega arith

and_le : (a b : Bool) → cond (a && b) 1 0 ≤ cond a 1 0
and_le true true = omega arith
and_le true false = omega arith
and_le false b = omega arith

-- what a domain shares with another has no more values
pub shared_le : (a b : Domain) → count_of (shared a b) ≤ count_of a
shared_le a b = omega (arith, normal_count (a.zero && b.zero) (max a.lo b.lo) (min a.hi b.hi), and_le a.zero b.zero)

-- so a slot that keeps what its domain shares with another leaves no more points
pub points-kept_le : (ds : List Domain) (slot : ℕ) (d : Domain) → points_of (kept_at ds slot d) ≤ points_of ds
points-kept_le ds slot d = points-set_le ds slot (shared (domain_at ds slot) d) (shared_le (domain_at ds slot) d)

spread_out : (a b c k : ℕ) → a + b ≡ c → a * k + b * k ≡ c * k
spread_out a b c k e = grind arith

gathered : (n a b c : ℕ) → a + b ≡ c → n * a + n * b ≡ n * c
gathered n a b c e = grind arith

-- two domains that share out the values of a slot share out the points
pub points-set_both : (ds : List Domain) (slot : ℕ) (a b : Domain) → slot < length ds → count_of a + count_of b ≡ count_of (domain_at ds slot) → points_of (set ds slot a) + points_of (set ds slot b) ≡ points_of ds
points-set_both [] slot a b lt e = absurd (omega arith)
points-set_both (x ∷ ds) zero a b lt e = spread_out (count_of a) (count_of b) (count_of x) (points_of ds) e
points-set_both (x ∷ ds) (suc slot) a b lt e =
    gathered (count_of x) (points_of (set ds slot a)) (points_of (set ds slot b)) (points_of ds) (points-set_both ds slot a b (omega arith) e)

up_count : (z : Bool) (l h m : ℕ) → 1 ≤ l → count_of (shared (record { zero = z; lo = l; hi = h }) (up_to m)) ≡ cond z 1 0 + (min h m + 1 - l)
up_count true l h m low = grind (arith, nat_tests)
up_count false l h m low = grind (arith, nat_tests)

over_count : (z : Bool) (l h m : ℕ) → 1 ≤ l → h ≤ 255 → count_of (shared (record { zero = z; lo = l; hi = h }) (over m)) ≡ h + 1 - max l (m + 1)
over_count true l h m low high = grind (arith, nat_tests)
over_count false l h m low high = grind (arith, nat_tests)

-- the values up to one and those above it are all values of a normal domain
pub split_counts : (d : Domain) (m : ℕ) → IsNormal d → count_of (shared d (up_to m)) + count_of (shared d (over m)) ≡ count_of d
split_counts d m n =
    omega (arith, up_count d.zero d.lo d.hi m n.positive, over_count d.zero d.lo d.hi m n.positive n.byte)

-- so the points of the two parts of a split sum to those of the whole
pub points-split : (ds : List Domain) (slot m : ℕ) → IsNormal (domain_at ds slot) → slot < length ds → points_of (kept_at ds slot (up_to m)) + points_of (kept_at ds slot (over m)) ≡ points_of ds
points-split ds slot m normal' lt =
    points-set_both ds slot (shared (domain_at ds slot) (up_to m)) (shared (domain_at ds slot) (over m)) lt (split_counts (domain_at ds slot) m normal')

one_one : (a b : ℕ) → a ≡ 1 → b ≡ 1 → a * b ≡ 1
one_one a b e h = grind arith

-- domains with one value each have one point
pub points-single : (ds : List Domain) → All IsSingle ds → points_of ds ≡ 1
points-single [] all = refl
points-single (d ∷ ds) all = one_one (count_of d) (points_of ds) (All-head IsSingle d ds all) (points-single ds (All-tail IsSingle d ds all))

-- domains that hold values have points
pub points-open : (ds : List Domain) → All IsOpen ds → 0 < points_of ds
points-open [] all = omega arith
points-open (d ∷ ds) all = some (count_of d) (points_of ds) (All-head IsOpen d ds all) (points-open ds (All-tail IsOpen d ds all))
  where
    some : (a b : ℕ) → 0 < a → 0 < b → 0 < a * b
    some a b h k = mul-le-mul {n₁ = 1} {m₁ = 1} h k

-- where some domain is empty there is no point
pub points-bare : (ds : List Domain) (slot : ℕ) → slot < length ds → count_of (domain_at ds slot) ≡ 0 → points_of ds ≡ 0
points-bare [] slot lt none = absurd (omega arith)
points-bare (d ∷ ds) zero lt none = omega (arith, ap (λ (n : ℕ). n * points_of ds) none)
points-bare (d ∷ ds) (suc slot) lt none = omega (arith, ap (λ (n : ℕ). count_of d * n) (points-bare ds slot (omega arith) none))

pub points-any_bare : (ds : List Domain) → Any IsBare ds → points_of ds ≡ 0
points-any_bare ds bare =
    let at = get_or_default ds bare.0 bare.1 no_values bare.2 in
    points-bare ds bare.0 bare.2 (omega (arith, bare.4, ap count_of (sym at ∙ bare.3)))

-- and only there
pub points-none : (ds : List Domain) → points_of ds ≡ 0 → Any IsBare ds
points-none [] none = absurd (omega arith)
points-none (d ∷ ds) none =
    ⊎_elim
    (λ (bare : count_of d ≡ 0). (0, d, omega arith, refl, bare))
    (λ (some : count_of d ≡ 0 → ⊥).
    let rest = points-none ds (other (count_of d) (points_of ds) some none) in
    (suc rest.0, rest.1, omega (arith, rest.2), rest.3, rest.4))
    (cases_eq (count_of d) 0)
  where
    other : (a b : ℕ) → (a ≡ 0 → ⊥) → a * b ≡ 0 → b ≡ 0
    other zero b some e = absurd (some refl)
    other (suc a) b some e = omega (arith, e)
