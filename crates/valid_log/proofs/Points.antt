-- Lawful points and the plans of their values.
use Rattle.std.proofs.Common.{◌≡◌, ℕ, ◌≤◌, List, [], ◌∷◌, length, sym, ap, ◌∙◌, subst, refl, arith}
use Rattle.std.specs.Prelude.{All, IsPermutation, Option, IsSomeAnd}
use Rattle.std.specs.List.{AllZip}
use Rattle.std.proofs.Common.{inl, inr}
use Rattle.std.proofs.lemmas.List.Elements.{All-head, All-tail}
use Rattle.std.proofs.lemmas.Bool.{cases_eq, eq-eqb, ne_eqb}
use Rattle.stn_model.specs.declared.plant.Run.{Run}
use Rattle.stn_model.specs.Fits.{Fits}
use Rattle.stn_model.specs.Plant.{run_at}
use Rattle.stn_model.proofs.Fitting.{fit_parts}
use Rattle.time_grid.specs.Slots.{IsSlotOf}
use Rattle.time_grid.specs.PlanPoint.{start_in, IsChoice}
use Rattle.time_grid.proofs.SlotList.{slots-are}
use Rattle.time_grid.proofs.PointPlan.{found_run, starts-of_point}
use Rattle.stn_model.specs.declared.plant.Plant.{Plant}
use Rattle.stn_model.specs.Sound.{Sound}
use Rattle.stn_model.specs.Feasible.{Feasible}
use Rattle.stn_model.specs.Profit.{profit}
use Rattle.row_kit.specs.declared.program.Program.{Program}
use Rattle.row_kit.specs.Point.{IsLawful, worth_of}
use Rattle.row_set.specs.PlantProgram.{IsProgramOf}
use Rattle.time_grid.specs.Slots.{slots}
use Rattle.time_grid.specs.PlanPoint.{HasPoint, point_starts}
use Rattle.time_grid.proofs.OnePlan.{starts-permutation}
use Rattle.time_grid.proofs.Reordered.{Feasible-permutation, profit-permutation}
use Rattle.row_set.specs.Parts.{plan_of_values}

-- what the plan of a lawful point is
pub record IsLawfulPlan (plant : Plant) (program : Program) (point : List ℕ) : Type 0 where
  pub feasible : Feasible plant (plan_of_values plant point)
  pub earns : profit plant (plan_of_values plant point) ≡ worth_of program point

-- the plan of a lawful point's values is feasible and earns the point's worth
pub lawful-plan : (plant : Plant) (program : Program) (point : List ℕ) → Sound plant → IsProgramOf plant program → IsLawful program point → IsLawfulPlan plant program point
unfolding plan_of_values
lawful-plan plant program point sound means lawful =
    let found = means.some point lawful in
    let plan = found.0 in
    let has : HasPoint plant plan = ((means.feasible plan).0 found.1.0).0 in
    let same : IsPermutation plan (point_starts plant (slots plant) point) = subst (λ p. IsPermutation plan (point_starts plant (slots plant) p)) found.1.1 (starts-permutation plant plan sound has) in
    record {
      feasible = Feasible-permutation plant plan (point_starts plant (slots plant) point) same found.1.0;
      earns = sym (profit-permutation plant plan (point_starts plant (slots plant) point) same) ∙ sym (means.worth plan has) ∙ ap (worth_of program) found.1.1;
    }

-- a start that fits in a slot has a size of the slot's run
choice-fits : (plant : Plant) (slot : ℕ × ℕ) (value : ℕ) → Sound plant → IsSlotOf plant slot → Fits plant (start_in plant slot value) → ((run_at plant slot.0).min ≤ value) × (value ≤ (run_at plant slot.0).max)
choice-fits plant slot value sound is fits =
    subst (λ (o : Option Run). IsSomeAnd o (λ run. (run.min ≤ value) × (value ≤ run.max))) (found_run plant slot.0 sound is.run) (fit_parts plant (start_in plant slot value) fits).size

-- where all starts of some values fit, each value is one that its slot can take
choices-fit : (plant : Plant) (grid : List (ℕ × ℕ)) (values : List ℕ) → Sound plant → All (IsSlotOf plant) grid → length values ≡ length grid → All (Fits plant) (point_starts plant grid values) → AllZip (IsChoice plant) grid values
choices-fit plant [] [] sound are same fits = tt
choices-fit plant [] (value ∷ values) sound are same fits = absurd (omega arith)
choices-fit plant (slot ∷ grid) [] sound are same fits = absurd (omega arith)
choices-fit plant (slot ∷ grid) (value ∷ values) sound are same fits =
    let rest = choices-fit plant grid values sound (All-tail (IsSlotOf plant) slot grid are) (omega arith) in
    elim (cases_eq value 0) [
      | inl e ↦
          let none : point_starts plant (slot ∷ grid) (value ∷ values) ≡ point_starts plant grid values = rw (eq-eqb value 0 e) refl in
          (inl e, rest (subst (All (Fits plant)) none fits))
      | inr e ↦
          let one : point_starts plant (slot ∷ grid) (value ∷ values) ≡ start_in plant slot value ∷ point_starts plant grid values = rw (ne_eqb value 0 e) refl in
          let all : All (Fits plant) (start_in plant slot value ∷ point_starts plant grid values) = subst (All (Fits plant)) one fits in (
            inr (choice-fits plant slot value sound (All-head (IsSlotOf plant) slot grid are) (All-head (Fits plant) (start_in plant slot value) (point_starts plant grid values) all)),
            rest (All-tail (Fits plant) (start_in plant slot value) (point_starts plant grid values) all),
          )
    ]

-- values whose plan is feasible are a lawful point
pub feasible-lawful : (plant : Plant) (program : Program) (point : List ℕ) → Sound plant → IsProgramOf plant program → length point ≡ length (slots plant) → Feasible plant (plan_of_values plant point) → IsLawful program point
unfolding plan_of_values
feasible-lawful plant program point sound means same feasible =
    let choices = choices-fit plant (slots plant) point sound (slots-are plant) same feasible.fits in
    let own = starts-of_point plant point sound choices in
    subst (IsLawful program) own.1 ((means.feasible (point_starts plant (slots plant) point)).0 feasible).1
