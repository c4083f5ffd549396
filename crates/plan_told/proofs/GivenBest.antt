-- The best point of a search over a program with sums, as of the given program.
use Rattle.std.proofs.Common.{◌≡◌, ◌≢◌, Bool, true, false, cond, List, length, Option, Some, None, ◌≤ℤ◌, ◌<ℤ◌, refl, sym, ◌∙◌, subst, arith}
use Rattle.std.specs.Prelude.{IfSome}
use Rattle.std.specs.Option.{IsSomeAnd, option_map}
use Rattle.std.proofs.lemmas.Int.{ints}
use Rattle.row_kit.specs.declared.found.Found.{Found}
use Rattle.row_kit.specs.declared.program.Program.{Program}
use Rattle.row_kit.specs.Point.{IsLawful, worth_of}
use Rattle.row_relax.specs.Settle.{is_lawful, only_point}
use Rattle.row_relax.specs.laws.Lawful.{lawful_true, true_lawful}
use Rattle.proof_tree.specs.declared.capped.Capped.{Capped}
use Rattle.proof_tree.specs.declared.capped.Capped.TheVariants.{AtMost, NoPoint, Bad}
use Rattle.branch_tree.specs.Justified.{IsGroup}
use Rattle.branch_tree.specs.Searched.{IsSettled}
use Rattle.branch_tree.specs.Compared.{is_over}
use Rattle.branch_tree.proofs.Best.{better-first, better-keeps, better-second}
use Rattle.sum_slots.specs.declared.sum.Sum.{Sum}
use Rattle.sum_slots.specs.Larger.{completed, given_of}
use Rattle.plan_images.proofs.Imaging.{HaveSamePoints}
use Rattle.plan_told.specs.Given.{cut_found, given_best, least_found, worth_found}
use Rattle.plan_told.proofs.Least.{with_worth}

-- the best point as of a program: the best found one cut back, or the least where it is lawful and worth more or none was found
abbrev pub best_given : Program → Option Found → Option Found
best_given part best = given_best (length part.root) (least_found part) best

-- the least point as a found one is lawful, and stands with its worth
least_group : (part : Program) → IfSome (least_found part) (IsGroup part)
least_group part = at (is_lawful part (only_point part.root)) refl
  where
    at : (lawful : Bool) → is_lawful part (only_point part.root) ≡ lawful → IfSome (cond lawful (Some (with_worth (only_point part.root) (worth_of part (only_point part.root)))) None) (IsGroup part)
    at true holds = record { lawful = true_lawful part (only_point part.root) holds; worth = refl }
    at false holds = tt

-- where the least point is lawful, it is found
least_there : (part : Program) → IsLawful part (only_point part.root) → least_found part ≡ Some (with_worth (only_point part.root) (worth_of part (only_point part.root)))
least_there part lawful = at (is_lawful part (only_point part.root)) (lawful_true part (only_point part.root) lawful)
  where
    at : (holds : Bool) → holds ≡ true → cond holds (Some (with_worth (only_point part.root) (worth_of part (only_point part.root)))) None ≡ Some (with_worth (only_point part.root) (worth_of part (only_point part.root)))
    at true is = refl
    at false is = cc

module _ (part larger : Program) (sums : List Sum) (same : HaveSamePoints part larger (completed sums) (given_of part)) where
  -- a lawful point of the larger program, cut back, is lawful and worth the same
  cut_group : (found : Found) → IsGroup larger found → IsGroup part (cut_found (length part.root) found)
  cut_group found group =
      let own = same.back_is found.point group.lawful in
      record { lawful = own.0; worth = group.worth ∙ sym own.1 }

  -- the same of the best found point
  cut_groups : (best : Option Found) → IfSome best (IsGroup larger) → IfSome (option_map (cut_found (length part.root)) best) (IsGroup part)
  cut_groups None group = tt
  cut_groups (Some found) group = cut_group found group

  -- the best point is lawful, and stands with its worth
  pub given-group : (best : Option Found) → IfSome best (IsGroup larger) → IfSome (best_given part best) (IsGroup part)
  given-group best group = better-keeps (IsGroup part) (option_map (cut_found (length part.root)) best) (least_found part) (cut_groups best group) (least_group part)

-- the best point is worth as much as the least, where that is lawful
pub given-least : (part : Program) (best : Option Found) → IsLawful part (only_point part.root) → IsSomeAnd (best_given part best) (λ found. worth_of part (only_point part.root) ≤ℤ found.value)
given-least part best lawful =
    let above = better-second (option_map (cut_found (length part.root)) best) (least_found part) in
    subst (λ least. IfSome least (λ f. IsSomeAnd (best_given part best) (λ b. f.value ≤ℤ b.value))) (least_there part lawful) above

-- the best point is worth as much as the best found one
given-first : (part : Program) (found : Found) → IsSomeAnd (best_given part (Some found)) (λ b. found.value ≤ℤ b.value)
given-first part found = better-first (Some (cut_found (length part.root) found)) (least_found part)

-- a cap above it is above the best found point, so that a box was left open
not_settled : (part : Program) (best : Option Found) (cap : Capped) → cap ≢ Bad → IsSettled cap best → is_over cap (worth_found (best_given part best)) ≡ true → ⊥
not_settled part best Bad defined settled over = defined refl
not_settled part best NoPoint defined settled over = cc
not_settled part None (AtMost n) defined settled over = settled
not_settled part (Some found) (AtMost n) defined settled over = at (best_given part (Some found)) (given-first part found) over
  where
    at : (given : Option Found) → IsSomeAnd given (λ b. found.value ≤ℤ b.value) → is_over (AtMost n) (worth_found given) ≡ true → ⊥
    at None above less = above
    at (Some b) above less =
        let below : b.value <ℤ n = grind (arith, ints) in
        omega (arith, ints, above, below, settled)

-- where a box counts as left open as of the part, the search left one open
pub open-left : (part : Program) (best : Option Found) (cap : Capped) (left_open : Bool) → cap ≢ Bad → (left_open ≡ false → IsSettled cap best) → is_over cap (worth_found (best_given part best)) ≡ true → left_open ≡ true
open-left part best cap true defined settled over = refl
open-left part best cap false defined settled over = absurd (not_settled part best cap defined (settled refl) over)
