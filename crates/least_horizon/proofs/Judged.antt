-- What a verdict without an objection says.
use Rattle.std.proofs.Common.{◌≡◌, ℕ, ◌+◌, ◌<◌, ◌≤◌, None, Some, inl, inr, sym, subst, arith}
use Rattle.std.specs.Prelude.{Option, List, IfSome}
use Rattle.std.proofs.lemmas.Bool.{cases_eq}
use Rattle.stn_edge.specs.Files.{FileMap, file_of}
use Rattle.stn_model.specs.declared.plant.Plant.{Plant}
use Rattle.stn_model.specs.Best.{NoPlan}
use Rattle.proof_log.specs.declared.claim.Claim.TheVariants.{Optimal, Infeasible, Between, Below}
use Rattle.valid_log.specs.declared.verdict.LogVerdict.{LogVerdict}
use Rattle.valid_log.specs.declared.verdict.LogVerdict.TheVariants as log
use Rattle.valid_log.specs.Claims.{YesSays}
use Rattle.log_lines.specs.declared.defect.Defect.{Defect}
use Rattle.shorter_plant.specs.PlantAt.{plant_at}
use Rattle.proof_log.specs.LogNames.{log_name}
use Rattle.least_horizon.specs.Stems.{objection, AreClear, IsJudged}

-- a verdict against which nothing speaks says that no plan is feasible
pub no_objection : (plant : Plant) (verdict : LogVerdict) → YesSays plant verdict → objection verdict ≡ None → NoPlan plant
no_objection plant (log.Yes (Optimal earned point)) says none = absurd cc
no_objection plant (log.Yes Infeasible) says none = says
no_objection plant (log.Yes (Between earned most point)) says none = absurd cc
no_objection plant (log.Yes (Below most)) says none = absurd cc
no_objection plant (log.No defect) says none = absurd cc

-- what holds of each number from 1 on that is below one, and of this one, holds of each below the next
pub up_to : (P : ℕ → Type 0) (horizon : ℕ) → ((g : ℕ) → 1 ≤ g → g < horizon → P g) → P horizon → (g : ℕ) → 1 ≤ g → g < horizon + 1 → P g
up_to P horizon before here g some below =
    elim (cases_eq g horizon) [
      | inl e ↦ subst P (sym e) here
      | inr other ↦ before g some (omega arith)
    ]

-- one more log against which nothing speaks
pub one_more_clear : (plant : Plant) (stem : List ℕ) (files now : Option FileMap) (horizon : ℕ) (found : Option Defect) → now ≡ files → found ≡ None
    → IfSome files (λ m. AreClear plant (λ h. file_of m (log_name stem h)) horizon)
    → IfSome now (λ m. IsJudged (plant_at plant horizon) (file_of m (log_name stem horizon)) found)
    → IfSome files (λ m. AreClear plant (λ h. file_of m (log_name stem h)) (horizon + 1))
one_more_clear plant stem None now horizon found same none before here = tt
one_more_clear plant stem (Some m) now horizon found same none before here =
    let told = subst (λ (files : Option FileMap). IfSome files (λ m. IsJudged (plant_at plant horizon) (file_of m (log_name stem horizon)) found)) same here in
    up_to (λ h. IsJudged (plant_at plant h) (file_of m (log_name stem h)) None) horizon before (subst (IsJudged (plant_at plant horizon) (file_of m (log_name stem horizon))) none told)
