-- What is told of a search over the rows of a part's head is right of the part.
use Rattle.std.proofs.Common.{◌≡◌, ℕ, true, ◌≤◌, List, [], ◌∷◌, ◌++◌, Option, IfSome, flat_map, refl, sym, ap, ap₂, subst}
use Rattle.stn_model.specs.declared.plant.Plant.{Plant}
use Rattle.stn_model.specs.declared.answer.Outcome.{Outcome}
use Rattle.stn_model.specs.Sound.{Sound}
use Rattle.row_kit.specs.declared.domain.Domain.{Domain}
use Rattle.row_kit.specs.declared.found.Found.{Found}
use Rattle.row_kit.specs.declared.program.Program.{Program}
use Rattle.row_kit.specs.Point.{IsLawful}
use Rattle.row_set.specs.Parts.{IsPartOf}
use Rattle.proof_tree.specs.Items.{tree_items}
use Rattle.log_lines.specs.declared.line.Line.TheVariants.{End}
use Rattle.proof_log.specs.declared.claim.Claim.{Claim}
use Rattle.proof_log.specs.Log.{claim_lines, item_lines, lines_text}
use Rattle.sum_slots.specs.Larger.{completed}
use Rattle.sum_slots.specs.Shown.{AreRanges}
use Rattle.sum_choice.specs.Headed.{is_headed}
use Rattle.valid_log.specs.SumTexts.{larger_claim}
use Rattle.plan_told.specs.Given.{given_end, least_found}
use Rattle.plan_told.specs.Law.{IsToldByHead}
use Rattle.plan_told.specs.Outcomes.{IsPartOutcome}
use Rattle.plan_told.specs.Proofs.{HasProof}
use Rattle.plan_told.proofs.Texts.{headed-has}
use Rattle.head_choice.specs.declared.heading.Headed.{Headed}
use Rattle.head_choice.specs.Heading.{IsHeaded}
use Rattle.stn_solve.specs.Begun.{EarnsPoint}
use Rattle.stn_solve.specs.laws.Telling.{IsToldOver}
use Rattle.stn_solve.proofs.BegunTold.{begun-given, told-earns}
use Rattle.stn_solve.proofs.SearchTold.{headed-right}

module _ (plant : Plant) (part : Program) (judged : List Domain) (headed : Headed) (least : Option Found) (budget : ℕ) (point : List ℕ) (log : Option (List ℕ)) (sound : Sound plant) (is : IsPartOf plant part) (ranges : AreRanges part judged)
    (with_head : IsHeaded plant part judged headed) (least_is : least ≡ least_found part) (some : 1 ≤ budget) (many : is_headed part 0 ≡ true) (few : budget ≤ 100000) (outcome : Outcome) (over : IsToldOver plant headed least budget point log outcome) where
  right : IsToldByHead plant part judged headed.sums with_head.units with_head.derivations budget over.tree over.told
  right = headed-right plant part judged headed least budget over.tree over.ended (given_end headed.given least over.ended) sound is ranges with_head least_is some over.of refl many few over.told over.tells

  -- the outcome is right
  pub over-outcome : IsPartOutcome plant part budget outcome
  over-outcome = subst (IsPartOutcome plant part budget) (sym over.outcome_is) right.outcome

  -- there is a proof of it
  pub over-proof : (levels : ℕ) → is_headed part levels ≡ true → HasProof plant part judged levels log outcome
  over-proof levels has =
      let text = ap₂ (λ (head : List ℕ) (claim : Claim). head ++ lines_text (flat_map item_lines (tree_items over.tree) ++ (claim_lines claim ++ End ∷ []))) with_head.head (ap (λ (claim : Claim). larger_claim headed.sums claim) right.claim) in
      subst (HasProof plant part judged levels log) (sym over.outcome_is)
      (headed-has plant part judged levels headed.sums with_head.units with_head.derivations log over.told.outcome over.tree has right.proof (subst (λ (t : List ℕ). IfSome log (λ bytes. bytes ≡ t)) text over.text))

  -- it earns what the point does with which the search began
  pub over-begun : (start : List ℕ) → (IsLawful part start → point ≡ completed headed.sums start) → EarnsPoint part start outcome.answer
  over-begun start same =
      let own = given_end headed.given least over.ended in
      let worth = begun-given plant part judged headed ranges with_head least start point over.ended own same over.begun refl in
      subst (λ (o : Outcome). EarnsPoint part start o.answer) (sym over.outcome_is) (told-earns plant part start own over.told worth over.tells)
