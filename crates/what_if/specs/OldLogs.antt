-- An old log of a plant: when it is valid, and the plan of its claim.
use Rattle.std.specs.Prelude.{◌≡◌, ℕ, length, List, Option, None, IsSomeAnd}
use Rattle.stn_model.specs.declared.plant.Plant.{Plant}
use Rattle.stn_model.specs.declared.start.Start.{Start}
use Rattle.time_grid.specs.PlanPoint.{IsPlanOf}
use Rattle.proof_tree.specs.Tree.{tree_of}
use Rattle.row_relax.specs.declared.rows.Rows.{Rows}
use Rattle.row_relax.specs.RowProofs.{RowTree}
use Rattle.row_set.specs.PlantProgram.{plant_root}
use Rattle.row_kit.specs.declared.domain.Domain.{Domain}
use Rattle.row_kit.specs.declared.program.Program.{Program}
use Rattle.proof_log.specs.declared.claim.Claim.{Claim}
use Rattle.proof_log.specs.declared.claim.Claim.TheVariants.{Optimal, Infeasible, Between, Below}
use Rattle.valid_log.specs.declared.verdict.LogVerdict.TheVariants.{Yes, No}
use Rattle.valid_log.specs.Verdict.{IsSoundLog}
use Rattle.valid_log.specs.AnyVersion.{IsAnyLog, given_claim}
use Rattle.valid_log.specs.Heads.{IsWithHead}
use Rattle.valid_log.specs.PlantLogs.{IsAnyChecked}
use Rattle.what_if.specs.declared.old.LogHead.{LogHead}
use Rattle.what_if.specs.declared.old.OldLog.{OldLog}
use Rattle.what_if.specs.declared.old.OldLog.TheVariants.{Valid, Defective}
use Rattle.what_if.specs.Estimate.{AreTaken}
use Rattle.what_if.specs.Head.{HasCaps, version_of}

-- a proof has no defect over the rows of a program with the head of its log, judged over these domains, under a claim that is this one when cut back
pub record IsSoundOver (plant : Plant) (program : Program) (ranges : List Domain) (head : LogHead) (proof : RowTree) (claim : Claim) : Type 0 where
  pub rows : Rows
  pub enlarged : IsWithHead plant (version_of head) program ranges head.sums head.units head.derivations rows
  pub own : Claim
  pub sound_log : IsSoundLog rows proof own
  pub claim_is : claim ≡ given_claim (length program.root) own

-- The check of the bytes says yes to this claim. They are the text of a log of any version with this head and this proof, which
-- has no defect over the plant's program with the head.
pub record IsValidFor (plant : Plant) (bytes : List ℕ) (head : LogHead) (proof : RowTree) (claim : Claim) : Type 0 where
  pub checked : IsAnyChecked plant bytes (Yes claim)
  pub is_log : IsAnyLog plant checked.program (plant_root plant) (plant_root plant) bytes head.sums head.units head.derivations proof claim
  pub has_caps : HasCaps is_log.front head.capped
  pub sound_log : IsSoundOver plant checked.program (plant_root plant) head proof claim
  pub taken : AreTaken plant checked.program (plant_root plant) head

-- the bytes are the text of this valid log, or have this first defect
abbrev pub IsOldLog : Plant → List ℕ → OldLog → Type 0
IsOldLog plant bytes (Valid log) = IsValidFor plant bytes log.head (tree_of log.tree) log.claim
IsOldLog plant bytes (Defective defect) = IsAnyChecked plant bytes (No defect)

-- the plan of a claim: that of its point, where it has one
abbrev pub ClaimsPlan : Plant → Claim → Option (List Start) → Type 0
ClaimsPlan plant (Optimal earned point) plan = IsSomeAnd plan (IsPlanOf plant point)
ClaimsPlan plant Infeasible plan = plan ≡ None
ClaimsPlan plant (Between earned most point) plan = IsSomeAnd plan (IsPlanOf plant point)
ClaimsPlan plant (Below most) plan = plan ≡ None
