-- What is picked where a slot and a value are advised.
use Rattle.std.proofs.Common.{◌≡◌, ℕ, ◌≤◌, leb, List, Option, Some, None, ℤ, sym, ap, ◌∙◌, subst, arith}
use Rattle.std.specs.Prelude.{IfSome, IsTrue}
use Rattle.std.proofs.lemmas.Bool.Decides.{nat_tests}
use Rattle.row_kit.specs.declared.domain.Domain.{Domain}
use Rattle.row_kit.specs.Domain.{domain_at}
use Rattle.branch_tree.specs.laws.Picks.{HasTwo, IsAllowed, IsAsAdvised}

-- the advised slot is chosen where it has two values, and a sum's is split at the advised value where it may be
pub as_advised : (given : ℕ) (ds : List Domain) (slot max : Option ℕ) (floor : Option ℤ) (chosen : ℕ × Option ℕ) (d : Domain) (value : ℕ) → IfSome slot (λ place. HasTwo ds place → chosen ≡ (place, max)) → d ≡ domain_at ds chosen.0
    → IfSome chosen.1 (λ v. IsTrue (leb given chosen.0) → IsAllowed d v → value ≡ v) → IsAsAdvised given ds slot max floor (record { slot = chosen.0; max = value; floor = floor })
as_advised given ds None max floor chosen d value own is wanted = tt
as_advised given ds (Some place) None floor chosen d value own is wanted = tt
as_advised given ds (Some place) (Some v) floor chosen d value own is wanted = λ sum two allowed.
    let slot_is : chosen.0 ≡ place = ap (λ (pair : ℕ × Option ℕ). pair.0) (own two) in
    let max_is : chosen.1 ≡ Some v = ap (λ (pair : ℕ × Option ℕ). pair.1) (own two) in
    let from_there = subst (λ (o : Option ℕ). IfSome o (λ v. IsTrue (leb given chosen.0) → IsAllowed d v → value ≡ v)) max_is wanted in
    let later : given ≤ chosen.0 = omega (arith, sum, slot_is) in
    let value_is : value ≡ v = from_there (grind (arith, nat_tests)) (subst (λ x. IsAllowed x v) (sym (is ∙ ap (domain_at ds) slot_is)) allowed) in
    ap (λ n. record { slot = n; max = value; floor = floor }) slot_is ∙ ap (λ n. record { slot = place; max = n; floor = floor }) value_is
