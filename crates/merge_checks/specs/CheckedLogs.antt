-- Logs that are to be merged: whether each is valid and has the head of the first, and the first that is refused.
use Rattle.std.specs.Prelude.{◌≡◌, ◌⊎◌, ℕ, ◌<◌, List}
use Rattle.stn_model.specs.declared.plant.Plant.{Plant}
use Rattle.log_lines.specs.declared.defect.Defect.{Defect}
use Rattle.proof_log.specs.declared.claim.Claim.{Claim}
use Rattle.valid_log.specs.declared.verdict.LogVerdict.TheVariants as verdict
use Rattle.valid_log.specs.PlantLogs.{IsAnyChecked}
use Rattle.log_parts.specs.declared.heads.Declared.{Declared}
use Rattle.log_parts.specs.OtherHeads.{IsOtherHead}
use Rattle.opened_logs.specs.declared.opened.Opened.{Opened}
use Rattle.opened_logs.specs.Opened.{IsOpened}

-- the bytes are a valid log of the plant, with whatever claim, and its head declares this
abbrev pub IsValidDeclaring : Plant → List ℕ → Declared → Type 0
IsValidDeclaring plant bytes declared = (claim : Claim) × (IsAnyChecked plant bytes (verdict.Yes claim) × ((own : Opened) × (IsOpened plant bytes own × (own.head.declared ≡ declared))))

-- the first logs, so many, are valid and declare this
abbrev pub AreValidTo : Plant → (ℕ → List ℕ) → Declared → ℕ → Type 0
AreValidTo plant logs declared count = (number : ℕ) → number < count → IsValidDeclaring plant (logs number) declared

-- The bytes are a valid log, but its head is another than this: the defect is of kind 22, at the line on which the first sum, setup, cut or
-- row that differs begins, or line 1 where one head is a first part of the other.
abbrev pub HasOtherHead : Plant → List ℕ → Declared → Defect → Type 0
HasOtherHead plant bytes declared defect = (own : Declared) × (IsValidDeclaring plant bytes own × (defect.kind ≡ 22) × IsOtherHead declared own defect.line)

-- the log of a number is refused where those before it declare this: it is not valid and has this first defect, or it is valid, not the first, and has another head
abbrev pub IsRefusedToMerge : Plant → ℕ → List ℕ → Declared → Defect → Type 0
IsRefusedToMerge plant number bytes declared defect = IsAnyChecked plant bytes (verdict.No defect) ⊎ ((0 < number) × HasOtherHead plant bytes declared defect)
