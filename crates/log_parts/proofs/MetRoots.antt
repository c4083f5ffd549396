-- Roots of which is left what other domains share with them.
use Rattle.std.proofs.Common.{◌≡◌, ℕ, ◌<◌, ◌≤◌, Bool, true, false, ◌&&◌, leb, List, [], ◌∷◌, length, get_or, refl, sym, ap, ◌∙◌, subst, inl, inr, arith}
use Rattle.std.specs.Prelude.{min, max}
use Rattle.std.specs.List.{All, AllZip}
use Rattle.std.proofs.lemmas.Bool.{cases_eq, cases_lt, cond-true, cond-false}
use Rattle.std.proofs.lemmas.Bool.Decides.{nat_tests}
use Rattle.std.proofs.lemmas.List.{get_or-set_other, get_or-set_same, get_or_default, length-set, same_lists}
use Rattle.row_kit.specs.declared.domain.Domain.{Domain}
use Rattle.row_kit.specs.Domain.{Holds, IsNormal, domain_at, no_values, normal, shared}
use Rattle.row_kit.specs.Points.{kept_at}
use Rattle.row_kit.proofs.Parts.{shared_holds, shared_normal, shared_within}
use Rattle.row_set.specs.Parts.{IsWithin}
use Rattle.derivations.specs.Larger.{met}
use Rattle.derivations.proofs.Shares.{length-met, met-at}

-- ---- what two domains share

none_of : (zero : Bool) (lo hi : ℕ) → hi < lo → normal zero lo hi ≡ record { zero = zero; lo = 1; hi = 0 }
none_of zero lo hi none = let test : leb lo hi ≡ false = grind (arith, nat_tests) in cond-false _ _ _ test

some_of : (zero : Bool) (lo hi : ℕ) → lo ≤ hi → normal zero lo hi ≡ record { zero = zero; lo = lo; hi = hi }
some_of zero lo hi some = let test : leb lo hi ≡ true = grind (arith, nat_tests) in cond-true _ _ _ test

-- what a normal domain shares with another
shared-normal : (zero : Bool) (lo hi : ℕ) (c : Domain) → shared (normal zero lo hi) c ≡ normal (zero && c.zero) (max lo c.lo) (min hi c.hi)
shared-normal zero lo hi c =
    elim (cases_lt hi lo) [
      | inl none ↦
          ap (λ (d : Domain). shared d c) (none_of zero lo hi none)
          ∙ none_of (zero && c.zero) (max 1 c.lo) (min 0 c.hi) (omega arith)
          ∙ sym (none_of (zero && c.zero) (max lo c.lo) (min hi c.hi) (omega (arith, none)))
      | inr some ↦ ap (λ (d : Domain). shared d c) (some_of zero lo hi some)
    ]

both_swap : (a b c : Bool) → (a && b) && c ≡ (a && c) && b
both_swap true true true = refl
both_swap true true false = refl
both_swap true false true = refl
both_swap true false false = refl
both_swap false b c = refl

-- it does not matter which of two domains is taken first
pub shared-swap : (a b c : Domain) → shared (shared a b) c ≡ shared (shared a c) b
shared-swap a b c =
    let zero : (a.zero && b.zero) && c.zero ≡ (a.zero && c.zero) && b.zero = both_swap a.zero b.zero c.zero in
    let lo : max (max a.lo b.lo) c.lo ≡ max (max a.lo c.lo) b.lo = omega arith in
    let hi : min (min a.hi b.hi) c.hi ≡ min (min a.hi c.hi) b.hi = omega arith in
    shared-normal (a.zero && b.zero) (max a.lo b.lo) (min a.hi b.hi) c
    ∙ ap (λ (z : Bool). normal z (max (max a.lo b.lo) c.lo) (min (min a.hi b.hi) c.hi)) zero
    ∙ ap (λ (n : ℕ). normal ((a.zero && c.zero) && b.zero) n (min (min a.hi b.hi) c.hi)) lo
    ∙ ap (λ (n : ℕ). normal ((a.zero && c.zero) && b.zero) (max (max a.lo c.lo) b.lo) n) hi
    ∙ sym (shared-normal (a.zero && c.zero) (max a.lo c.lo) (min a.hi c.hi) b)

zero_self : (b : Bool) → b && b ≡ b
zero_self true = refl
zero_self false = refl

max_self : (n : ℕ) → max n n ≡ n
max_self n = omega arith

min_self : (n : ℕ) → min n n ≡ n
min_self n = omega arith

-- a normal domain as it is written
written : (d : Domain) → IsNormal d → normal d.zero d.lo d.hi ≡ d
written d is =
    elim (cases_lt d.hi d.lo) [
      | inl none ↦
          let bare = is.bare none in
          none_of d.zero d.lo d.hi none ∙ ap (λ (n : ℕ). record { zero = d.zero; lo = n; hi = 0 }) (sym bare.0) ∙ ap (λ (n : ℕ). record { zero = d.zero; lo = d.lo; hi = n }) (sym bare.1)
      | inr some ↦ some_of d.zero d.lo d.hi some
    ]

-- a normal domain shares all with itself
pub shared-self : (d : Domain) → IsNormal d → shared d d ≡ d
shared-self d is =
    ap (λ (z : Bool). normal z (max d.lo d.lo) (min d.hi d.hi)) (zero_self d.zero)
    ∙ ap (λ (n : ℕ). normal d.zero n (min d.hi d.hi)) (max_self d.lo)
    ∙ ap (λ (n : ℕ). normal d.zero d.lo n) (min_self d.hi)
    ∙ written d is

both_turn : (a b : Bool) → a && b ≡ b && a
both_turn true true = refl
both_turn true false = refl
both_turn false true = refl
both_turn false false = refl

-- nor which is named first
pub shared-turn : (a b : Domain) → shared a b ≡ shared b a
shared-turn a b =
    let lo : max a.lo b.lo ≡ max b.lo a.lo = omega arith in
    let hi : min a.hi b.hi ≡ min b.hi a.hi = omega arith in
    ap (λ (z : Bool). normal z (max a.lo b.lo) (min a.hi b.hi)) (both_turn a.zero b.zero)
    ∙ ap (λ (n : ℕ). normal (b.zero && a.zero) n (min a.hi b.hi)) lo
    ∙ ap (λ (n : ℕ). normal (b.zero && a.zero) (max b.lo a.lo) n) hi

-- ---- roots

-- a slot of which less is kept keeps less of what is left
pub kept-met : (root left : List Domain) (slot : ℕ) (d : Domain) → length left ≡ length root → slot < length root → kept_at (met root left) slot d ≡ met (kept_at root slot d) left
kept-met root left slot d same low =
    let own = kept_at root slot d in
    let long = length-met root left same in
    let own_long : length own ≡ length root = length-set root slot (shared (domain_at root slot) d) in
    let own_same : length left ≡ length own = same ∙ sym own_long in
    same_lists (kept_at (met root left) slot d) (met own left)
    (length-set (met root left) slot (shared (domain_at (met root left) slot) d) ∙ long ∙ sym own_long ∙ sym (length-met own left own_same))
    (λ k e l.
    let within : k < length root = omega (arith, l, length-set (met root left) slot (shared (domain_at (met root left) slot) d), long) in
    let later = met-at own left k e own_same (omega (arith, within, own_long)) in
    elim (cases_eq k slot) [
      | inl here ↦
          subst (λ (n : ℕ). get_or (kept_at (met root left) slot d) n e ≡ get_or (met own left) n e) (sym here)
          (get_or-set_same (met root left) slot (shared (domain_at (met root left) slot) d) e (omega (arith, low, long))
          ∙ ap (λ (x : Domain). shared x d) (met-at root left slot no_values same low)
          ∙ shared-swap (domain_at root slot) (domain_at left slot) d
          ∙ ap (λ (x : Domain). shared (shared (domain_at root slot) d) x) (get_or_default left slot no_values e (omega (arith, low, same)))
          ∙ ap (λ (x : Domain). shared x (get_or left slot e)) (sym (get_or-set_same root slot (shared (domain_at root slot) d) e low))
          ∙ sym (met-at own left slot e own_same (omega (arith, low, own_long))))
      | inr apart ↦
          get_or-set_other (met root left) slot k (shared (domain_at (met root left) slot) d) e apart
          ∙ met-at root left k e same within
          ∙ ap (λ (x : Domain). shared x (get_or left k e)) (sym (get_or-set_other root slot k (shared (domain_at root slot) d) e apart))
          ∙ sym later
    ])

-- where each slot's domain shares all of it, a root stays
pub met-stays : (root left : List Domain) → length left ≡ length root → ((k : ℕ) → k < length root → shared (domain_at root k) (domain_at left k) ≡ domain_at root k) → met root left ≡ root
met-stays root left same each =
    same_lists (met root left) root (length-met root left same)
    (λ k e l.
    let within : k < length root = omega (arith, l, length-met root left same) in
    let there : k < length left = omega (arith, within, same) in
    met-at root left k e same within
    ∙ ap (λ (x : Domain). shared x (get_or left k e)) (get_or_default root k e no_values within)
    ∙ ap (λ (x : Domain). shared (domain_at root k) x) (get_or_default left k e no_values there)
    ∙ each k within ∙ get_or_default root k no_values e within)

-- what is left of a normal root is normal
pub met-normal : (root left : List Domain) → length left ≡ length root → All IsNormal root → All IsNormal (met root left)
met-normal root left same normal' k d l =
    let within : k < length root = omega (arith, l, length-met root left same) in
    subst IsNormal (sym (met-at root left k d same within)) (shared_normal (get_or root k d) (get_or left k d) (normal' k d within))

-- what is left of one domain within another lies within what is left of that
shared-within : (a b d : Domain) → IsWithin a b → IsWithin (shared a d) (shared b d)
shared-within a b d within value holds =
    let also = shared_within d a value (subst (λ (x : Domain). Holds x value) (shared-turn a d) holds) in
    shared_holds b d value (within value (shared_within a d value holds)) also

-- so it is of roots
pub met-within : (inner outer left : List Domain) → AllZip IsWithin inner outer → AllZip IsWithin (met inner left) (met outer left)
met-within [] [] [] within = tt
met-within [] [] (d ∷ left) within = tt
met-within [] (b ∷ outer) left within = absurd within
met-within (a ∷ inner) [] left within = absurd within
met-within (a ∷ inner) (b ∷ outer) [] within = tt
met-within (a ∷ inner) (b ∷ outer) (d ∷ left) within = (shared-within a b d within.0, met-within inner outer left within.1)
