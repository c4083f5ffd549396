-- What is left of a root can't be split more often than the root.
use Rattle.std.proofs.Common.{◌≡◌, ℕ, ◌≤◌, leb, Bool, true, false, ◌&&◌, cond, List, [], ◌∷◌, length, refl, ap, subst, sym, arith}
use Rattle.std.specs.Prelude.{min, max}
use Rattle.std.specs.List.{sum_by}
use Rattle.std.proofs.lemmas.List.Sums.{sum_by-cons}
use Rattle.std.proofs.lemmas.Bool.{and_parts}
use Rattle.std.proofs.lemmas.Bool.Decides.{nat_tests}
use Rattle.row_kit.specs.declared.domain.Domain.{Domain}
use Rattle.row_kit.specs.Domain.{normal, shared}
use Rattle.branch_tree.specs.Searched.{spared}
use Rattle.derivations.specs.Larger.{met}

-- a normal domain is split once less where it lacks 0 or nothing lies between its ends
spared_normal : (zero : Bool) (lo hi : ℕ) → spared (normal zero lo hi) ≡ cond (zero && leb lo hi) 0 1
spared_normal zero lo hi = by_test (leb lo hi) refl
  where
    by_test : (test : Bool) → leb lo hi ≡ test → spared (cond test (record { zero = zero; lo = lo; hi = hi }) (record { zero = zero; lo = 1; hi = 0 })) ≡ cond (zero && test) 0 1
    by_test true is = ap (λ (t : Bool). cond (zero && t) 0 1) is
    by_test false is = refl

-- a test that holds less often spares no less
spared_less : (one other : Bool) → (other ≡ true → one ≡ true) → cond one 0 1 ≤ cond other 0 1
spared_less true other less = omega arith
spared_less false false less = omega arith
spared_less false true less = let is = less refl in cc

-- where something lies between the ends of what two domains share, it lies between those of the first
between : (a b : Domain) → leb (max a.lo b.lo) (min a.hi b.hi) ≡ true → leb a.lo a.hi ≡ true
between a b some = let within : max a.lo b.lo ≤ min a.hi b.hi = grind (arith, nat_tests) in let own : a.lo ≤ a.hi = omega (arith, within) in grind (arith, nat_tests)

both_first : (a b c d : Bool) → (c ≡ true → d ≡ true) → (a && b) && c ≡ true → a && d ≡ true
both_first true b c d then' holds = then' (and_parts b c holds).1
both_first false b c d then' holds = holds

-- what a domain shares with another is not split more often
spared_shared : (a b : Domain) → spared a ≤ spared (shared a b)
spared_shared a b =
    subst (λ (n : ℕ). spared a ≤ n) (sym (spared_normal (a.zero && b.zero) (max a.lo b.lo) (min a.hi b.hi)))
    (spared_less (a.zero && leb a.lo a.hi) ((a.zero && b.zero) && leb (max a.lo b.lo) (min a.hi b.hi))
    (both_first a.zero b.zero (leb (max a.lo b.lo) (min a.hi b.hi)) (leb a.lo a.hi) (between a b)))

-- so it is of roots
pub spared-met : (root left : List Domain) → length left ≡ length root → sum_by spared root ≤ sum_by spared (met root left)
spared-met [] left same = omega arith
spared-met (d ∷ root) [] same = omega (arith, same)
spared-met (d ∷ root) (e ∷ left) same =
    omega (arith, spared_shared d e, spared-met root left (omega (arith, same)), sum_by-cons spared d root, sum_by-cons spared (shared d e) (met root left))
