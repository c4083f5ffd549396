-- What the points of a part of a plant's choices say of its plans.
use Rattle.std.proofs.Common.{◌≡◌, ℕ, suc, List, [], ◌∷◌, length, map, Option, Some, None, refl, sym, ap, ◌∙◌, subst}
use Rattle.std.specs.Prelude.{IfSome}
use Rattle.std.specs.List.{AllZip}
use Rattle.std.proofs.lemmas.List.{length-map}
use Rattle.stn_model.specs.declared.plant.Plant.{Plant}
use Rattle.stn_model.specs.declared.start.Start.{Start}
use Rattle.stn_model.specs.Sound.{Sound}
use Rattle.stn_model.specs.Feasible.{Feasible}
use Rattle.stn_model.specs.Profit.{profit}
use Rattle.time_grid.specs.Slots.{slots}
use Rattle.time_grid.specs.PlanPoint.{IsPlanOf, plan_point}
use Rattle.time_grid.proofs.PointPlan.{starts-of_point}
use Rattle.row_kit.specs.declared.domain.Domain.{Domain}
use Rattle.row_kit.specs.declared.found.Found.{Found}
use Rattle.row_kit.specs.declared.program.Program.{Program}
use Rattle.row_kit.specs.Point.{IsLawful, LiesIn, worth_of}
use Rattle.row_relax.specs.Settle.{only_point}
use Rattle.row_set.specs.Parts.{IsAdmitted, IsPartOf, IsWithin, plan_of_values}
use Rattle.row_set.specs.PlantProgram.{slot_domain}
use Rattle.row_set.proofs.PartPoints.{admitted-worth, lawful-whole, lies-within}
use Rattle.row_set.proofs.Roots.{point-of_root}
use Rattle.branch_tree.specs.Justified.{IsGroup}
use Rattle.branch_tree.proofs.Trees.{least_lies}
use Rattle.plan_told.specs.Outcomes.{least_plan}

length_within : (small large : List Domain) → AllZip IsWithin small large → length small ≡ length large
length_within [] [] within = refl
length_within [] (e ∷ large) within = absurd within
length_within (d ∷ small) [] within = absurd within
length_within (d ∷ small) (e ∷ large) within = ap suc (length_within small large within.1)

-- the plan of a lawful point: it is admitted, has the point, and earns its worth
pub record IsPointPlan (plant : Plant) (part : Program) (point : List ℕ) (plan : List Start) : Type 0 where
  pub admitted : IsAdmitted plant part plan
  pub has : plan_point plant plan ≡ point
  pub earns : profit plant plan ≡ worth_of part point

module _ (plant : Plant) (part : Program) (sound : Sound plant) (is : IsPartOf plant part) where
  -- the root of a part has the plant's slots
  root_slots : length part.root ≡ length (slots plant)
  root_slots = length_within part.root is.whole.root is.within ∙ ap length is.made.root_is ∙ length-map (slots plant) (slot_domain plant)

  -- a lawful point has a value for each slot
  pub lawful-places : (point : List ℕ) → IsLawful part point → length point ≡ length (slots plant)
  lawful-places point lawful = lawful.lies.same_length ∙ root_slots

  -- and so has a found point that is one, where there is one
  pub group-places : (best : Option Found) → IfSome best (IsGroup part) → IfSome best (λ found. length found.point ≡ length (slots plant))
  group-places None group = tt
  group-places (Some found) group = lawful-places found.point group.lawful

  -- the plan of a lawful point is admitted, has the point, and earns its worth
  pub lawful-plan : (point : List ℕ) (plan : List Start) → IsLawful part point → IsPlanOf plant point plan → IsPointPlan plant part point plan
  lawful-plan point plan lawful of =
      let whole = lawful-whole plant part point is lawful in
      let own = is.means.plans point plan whole of in
      let feasible : Feasible plant plan = (is.means.feasible plan).1 (own.0, subst (IsLawful is.whole) (sym own.1) whole) in
      let admitted : IsAdmitted plant part plan = record { feasible = feasible; lies = subst (LiesIn part.root) (sym own.1) lawful.lies } in
      record { admitted = admitted; has = own.1; earns = sym (admitted-worth plant part plan is admitted) ∙ ap (worth_of part) own.1 }

  -- the plan that does least has the least point of the root
  pub least-point : plan_point plant (least_plan plant part) ≡ only_point part.root
  unfolding plan_of_values
  least-point =
      let lies : LiesIn part.root (only_point part.root) = least_lies part.root part.root_normal is.each_open in
      let whole : LiesIn (map (slot_domain plant) (slots plant)) (only_point part.root)
      = subst (λ (ds : List Domain). LiesIn ds (only_point part.root)) is.made.root_is (lies-within part.root is.whole.root (only_point part.root) is.within lies) in
      (starts-of_point plant (only_point part.root) sound (point-of_root plant (only_point part.root) whole)).1
