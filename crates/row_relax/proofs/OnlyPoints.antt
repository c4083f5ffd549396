-- The cap of the only point of domains, by whether there is one.
use Rattle.std.proofs.Common.{◌≡◌, ◌∙◌, ℕ, ◌+◌, ◌<◌, ◌≤◌, min, Bool, true, false, eqb, get_or, List, length, take, sym, ap, subst, arith, ⊎_elim}
use Rattle.std.specs.Prelude.{◌↔◌, IsTrue}
use Rattle.std.proofs.lemmas.Bool.{cases_lt, cond-true, cond-false, eq-eqb, eqb-true}
use Rattle.std.proofs.lemmas.List.{get_or-take, get_or_default, length-take}
use Rattle.std.specs.List.{All}
use Rattle.std.proofs.lemmas.List.Sums.{AllPass-from_list_all, list_all-from_AllPass}
use Rattle.row_kit.specs.declared.domain.Domain.{Domain}
use Rattle.row_kit.specs.declared.program.Program.{Program}
use Rattle.row_kit.specs.Domain.{IsSingle, count_of, domain_at, no_values}
use Rattle.proof_tree.specs.declared.capped.Capped.{Capped}
use Rattle.proof_tree.specs.declared.capped.Capped.TheVariants.{Bad}
use Rattle.range_prop.proofs.Multiples.{same_test}
use Rattle.row_relax.specs.Settle.{are_single, cap_at, only_point, settled}

-- what says whether each domain has one value is the test
pub single_decides : (b : Bool) (ds : List Domain) → (b ≡ true → All IsSingle ds) → (All IsSingle ds → b ≡ true) → b ≡ are_single ds
single_decides b ds to from' =
    same_test b (are_single ds)
    (λ e. list_all-from_AllPass (λ (d : Domain). eqb (count_of d) 1) ds (λ k d lt. eq-eqb (count_of (get_or ds k d)) 1 (to e k d lt)))
    (λ e. from' (λ k d lt. eqb-true (count_of (get_or ds k d)) 1 (AllPass-from_list_all (λ (d : Domain). eqb (count_of d) 1) ds e k d lt)))

pub single_is : (b : Bool) (ds : List Domain) → (IsTrue b ↔ All IsSingle ds) → b ≡ are_single ds
single_is b ds is = single_decides b ds is.0 is.1

-- without an only point there is no cap
pub settled_bad : (program : Program) (ds : List Domain) → are_single ds ≡ false → Bad ≡ settled program ds
unfolding settled
settled_bad program ds e = sym (cond-false (are_single ds) (cap_at program (only_point ds)) Bad e)

-- with one, the cap is that at the point
pub settled_at : (program : Program) (ds : List Domain) (cap : Capped) → are_single ds ≡ true → cap ≡ cap_at program (only_point ds) → cap ≡ settled program ds
unfolding settled
settled_at program ds cap e is = is ∙ sym (cond-true (are_single ds) (cap_at program (only_point ds)) Bad e)

-- one more single domain
pub single_more : (ds : List Domain) (n : ℕ) → n < length ds → All IsSingle (take n ds) → IsSingle (domain_at ds n) → All IsSingle (take (n + 1) ds)
single_more ds n less each one k d within =
    let few : k < min (n + 1) (length ds) = subst (λ (m : ℕ). k < m) (length-take (n + 1) ds) within in
    let shown = sym (get_or-take (n + 1) ds k d (omega (arith, few))) in
    ⊎_elim
    (λ (before : k < n). subst IsSingle (get_or-take n ds k d before ∙ shown) (each k d (omega (arith, before, less, length-take n ds))))
    (λ (here : n ≤ k).
    let same : n ≡ k = omega (arith, here, few) in
    subst IsSingle (ap (λ (m : ℕ). get_or ds m no_values) same ∙ get_or_default ds k no_values d (omega (arith, few)) ∙ shown) one)
    (cases_lt k n)
