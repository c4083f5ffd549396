-- The logs that are merged, as they were checked. Only clauses of what merges cite it.
use Rattle.std.specs.Prelude.{◌≡◌, ◌⊎◌, ◌↔◌, ◌≤◌, ◌<◌, ℕ, true, ⊤, IsTrue, List, [], ◌∷◌, ◌++◌, length, slice_get, slice_index_or, Option, Some, IfSome}
use Rattle.stn_edge.specs.Files.{FileMap}
use Rattle.stn_edge.specs.declared.shelf.Shelf.{Ghosts}
use Rattle.stn_model.specs.declared.plant.Plant.{Plant}
use Rattle.stn_model.specs.Sound.{Sound}
use Rattle.proof_log.specs.declared.claim.Claim.{Claim}
use Rattle.proof_log.specs.declared.claim.Claim.TheVariants.{Infeasible}
use Rattle.proof_log.specs.LogNames.{log_name}
use Rattle.valid_log.specs.declared.verdict.LogVerdict.TheVariants as verdict
use Rattle.valid_log.specs.PlantLogs.{IsAnyChecked}
use Rattle.log_parts.specs.declared.heads.Declared.{Declared}
use Rattle.log_parts.specs.declared.heads.LogHead.{LogHead}
use Rattle.log_parts.specs.Heads.{HasNewest, lines_on}
use Rattle.log_parts.specs.PartLogs.{logs_of}
use Rattle.opened_logs.specs.declared.opened.Opened.{Opened}
use Rattle.opened_logs.specs.Opened.{IsOpened, front_of}
use Rattle.opened_logs.specs.Claims.{IsOpenClaim}
use Rattle.merge_checks.specs.declared.checked.Checked.{Checked}
use Rattle.merge_checks.specs.declared.checked.Checked.TheVariants.{All as AllValid, Bad}
use Rattle.merge_checks.specs.declared.checked.LogCheck.{LogCheck}
use Rattle.merge_checks.specs.declared.checked.LogCheck.TheVariants.{Valid, Bad as BadLog}
use Rattle.merge_checks.specs.declared.checked.Logs.{Logs}
use Rattle.merge_checks.specs.CheckedLogs.{AreValidTo, IsRefusedToMerge}

-- the logs of a stem, so many, 1 to 256, may be checked for a sound plant: all of them may be read
pub record CanCheck {F : Type 0} (S : Ghosts F) (plant : Plant) (count : ℕ) (stem : List ℕ) (files : F) : Type 0 where
  pub sound : Sound plant
  pub some : 1 ≤ count
  pub most : count ≤ 256
  pub allowed : (number : ℕ) → number < count → IsTrue (S.may_read files (log_name stem number))

-- the check of a log is right of its bytes
abbrev pub IsLogCheck : Plant → List ℕ → LogCheck → Type 0
IsLogCheck plant bytes (Valid opened claim) = IsAnyChecked plant bytes (verdict.Yes claim) × IsOpened plant bytes opened
IsLogCheck plant bytes (BadLog defect) = IsAnyChecked plant bytes (verdict.No defect)

-- whether the files are told or not: the lines are those on which what the head declares begins
abbrev pub IsKnownCheck : LogCheck → Type 0
IsKnownCheck (Valid opened claim) = opened.head.lines ≡ lines_on opened.head.declared
IsKnownCheck (BadLog defect) = ⊤

-- a valid log with this front and this claim, which declares what the first does
pub record IsCheckedLog (plant : Plant) (bytes : List ℕ) (logs : Logs) (number : ℕ) : Type 0 where
  pub own : Opened
  pub valid : IsAnyChecked plant bytes (verdict.Yes (slice_index_or logs.claims.items number Infeasible))
  pub opened : IsOpened plant bytes own
  pub same_head : own.head.declared ≡ logs.first.head.declared
  pub front : slice_get logs.fronts.items number ≡ Some (front_of own.head)

-- so many logs were checked, all are valid and have the head of the first
pub record AreCheckedTo (plant : Plant) (count : ℕ) (bytes : ℕ → List ℕ) (logs : Logs) : Type 0 where
  pub first : IsOpened plant (bytes 0) logs.first
  pub each : (number : ℕ) → number < count → IsCheckedLog plant (bytes number) logs number
  pub newest : (logs.newest ≡ true) ↔ HasNewest bytes count

-- what is known of so many logs, whether the files are told or not: how many fronts and claims there are, and whether one is settled
pub record AreKnownTo (count : ℕ) (logs : Logs) : Type 0 where
  pub fronts : length logs.fronts.items ≡ count
  pub claims : length logs.claims.items ≡ count
  pub lines : logs.first.head.lines ≡ lines_on logs.first.head.declared
  pub settled : (number : ℕ) → number < count → ¬ IsOpenClaim (slice_index_or logs.claims.items number Infeasible) → IsTrue logs.settled

-- the check of so many logs is right of their bytes
abbrev pub AreChecked : Plant → ℕ → (ℕ → List ℕ) → Checked → Type 0
AreChecked plant count bytes (AllValid logs) = AreCheckedTo plant count bytes logs
AreChecked plant count bytes (Bad number defect) =
    (number < count) × ((declared : Declared) × (AreValidTo plant bytes declared number × IsRefusedToMerge plant number (bytes number) declared defect))

-- the same of the logs of a stem, where the files are told
abbrev pub AreCheckedIn : Plant → ℕ → List ℕ → Option FileMap → Checked → Type 0
AreCheckedIn plant count stem files said = IfSome files (λ m. AreChecked plant count (logs_of m stem) said)

-- what is known of so many logs that are all valid
abbrev pub AreKnown : ℕ → Checked → Type 0
AreKnown count (AllValid logs) = AreKnownTo count logs
AreKnown count (Bad number defect) = number < count

-- the logs are this one, with this claim
pub record IsFirstLog (first : Opened) (claim : Claim) (logs : Logs) : Type 0 where
  pub is : logs.first ≡ first
  pub front : logs.fronts.items ≡ front_of first.head ∷ []
  pub claim_is : logs.claims.items ≡ claim ∷ []
  pub newest : (logs.newest ≡ true) ↔ (first.head.version ≡ 4)
  pub settled : IsTrue logs.settled ↔ (¬ IsOpenClaim claim)

-- a log with this head and this claim was put behind the others
pub record IsPushed (old : Logs) (head : LogHead) (claim : Claim) (new : Logs) : Type 0 where
  pub first : new.first ≡ old.first
  pub fronts : new.fronts.items ≡ old.fronts.items ++ front_of head ∷ []
  pub claims : new.claims.items ≡ old.claims.items ++ claim ∷ []
  pub newest : (new.newest ≡ true) ↔ ((old.newest ≡ true) ⊎ (head.version ≡ 4))
  pub settled : IsTrue new.settled ↔ (IsTrue old.settled ⊎ (¬ IsOpenClaim claim))
