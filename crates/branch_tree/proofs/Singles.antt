-- The only point of domains with one value each.
use Rattle.std.proofs.Common.{◌≡◌, ℕ, Bool, true, false, cond, eqb, List, get_or, Option, Some, None, refl, sym, ap, ◌∙◌, subst, arith, length, take, min, ◌<◌}
use Rattle.std.specs.Prelude.{ℤ, ◌≤ℤ◌, MatchOption}
use Rattle.std.specs.List.{All}
use Rattle.std.proofs.lemmas.Bool.{eq-eqb}
use Rattle.std.proofs.lemmas.Int.{ints}
use Rattle.std.proofs.lemmas.List.{get_or-take, length-take, take-map, take_all}
use Rattle.std.proofs.lemmas.List.Sums.{list_all-from_AllPass}
use Rattle.row_kit.specs.declared.domain.Domain.{Domain}
use Rattle.row_kit.specs.declared.found.Found.{Found}
use Rattle.row_kit.specs.declared.program.Program.{Program}
use Rattle.row_kit.specs.Domain.{IsSingle, count_of}
use Rattle.row_kit.specs.Point.{IsLawful, worth_of}
use Rattle.proof_tree.specs.declared.capped.Capped.TheVariants.{AtMost, NoPoint, Bad}
use Rattle.row_relax.specs.declared.rows.Rows.{Rows}
use Rattle.row_relax.specs.Choices.{choices_of}
use Rattle.row_relax.specs.Settle.{are_single, is_lawful, only_point, only_value, settled}
use Rattle.row_relax.specs.laws.Lawful.{true_lawful}
use Rattle.branch_tree.specs.Justified.{IsGroup}
use Rattle.branch_tree.specs.laws.Ends.{Reaches, is_chosen}

single_test : (ds : List Domain) → All IsSingle ds → are_single ds ≡ true
single_test ds all = list_all-from_AllPass (λ (d : Domain). eqb (count_of d) 1) ds (λ k d lt. eq-eqb (count_of (get_or ds k d)) 1 (all k d lt))

same_worth : (a b c : ℤ) → a ≡ b → b ≡ c → c ≤ℤ a
same_worth a b c first second = omega (arith, ints, first, second)

-- where all domains have one value, the first ones do
pub chosen_single : (rows : Rows) (ds : List Domain) → All IsSingle ds → is_chosen rows ds ≡ true
chosen_single rows ds all = single_test (take (length (choices_of rows).root) ds) first
  where
    first : All IsSingle (take (length (choices_of rows).root) ds)
    first k d lt =
        let few : k < min (length (choices_of rows).root) (length ds) = subst (λ (m : ℕ). k < m) (length-take (length (choices_of rows).root) ds) lt in
        subst IsSingle (sym (get_or-take (length (choices_of rows).root) ds k d (omega (arith, few)))) (all k d (omega (arith, few)))

-- the first values of the only point of domains are those of their first ones
pub first_only : (n many : ℕ) (ds : List Domain) (values : List ℕ) → values ≡ only_point (take many ds) → many ≡ length ds → take n values ≡ only_point (take n ds)
first_only n many ds values is all = ap (take n) (is ∙ ap only_point (take_all many ds (omega (arith, all)))) ∙ take-map only_value n ds

-- the only point, found where it is lawful, is worth what it settles to
pub settled-reached : (program : Program) (ds : List Domain) (point : List ℕ) (found : Option Found) → point ≡ only_point ds
    → MatchOption found (¬ IsLawful program point) (λ f. IsGroup program f × (f.point ≡ point)) → are_single ds ≡ true → Reaches (settled program ds) found
unfolding settled
settled-reached program ds point found is tested single = at (are_single ds) single (is_lawful program (only_point ds)) refl found tested
  where
    at : (s : Bool) → s ≡ true → (l : Bool) → is_lawful program (only_point ds) ≡ l → (o : Option Found) → MatchOption o (¬ IsLawful program point) (λ f. IsGroup program f × (f.point ≡ point))
        → Reaches (cond s (cond l (AtMost (worth_of program (only_point ds))) NoPoint) Bad) o
    at false single l lawful o tested' = cc
    at true single false lawful o tested' = tt
    at true single true lawful None tested' = absurd (tested' (subst (IsLawful program) (sym is) (true_lawful program (only_point ds) lawful)))
    at true single true lawful (Some f) tested' = same_worth f.value (worth_of program f.point) (worth_of program (only_point ds)) tested'.0.worth (ap (worth_of program) (tested'.1 ∙ is))
