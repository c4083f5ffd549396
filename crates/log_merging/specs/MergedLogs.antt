-- Logs of a plant that are merged to one.
use Rattle.std.specs.Prelude.{◌≡◌, ◌⊎◌, ◌↔◌, Bool, true, ℕ, ◌<◌, ⊤, ℤ, List, length, map, slice_index_or, Option, Some, IfSome}
use Rattle.std.specs.Option.{option_map}
use Rattle.stn_edge.specs.Files.{FileMap, file_of}
use Rattle.stn_model.specs.declared.plant.Plant.{Plant}
use Rattle.proof_tree.specs.Tree.{tree_cap}
use Rattle.row_relax.specs.Choices.{steps_of}
use Rattle.row_relax.specs.RowProofs.{RowTree}
use Rattle.row_relax.specs.View.{view_of}
use Rattle.proof_log.specs.declared.claim.Claim.{Claim}
use Rattle.proof_log.specs.declared.claim.Claim.TheVariants.{Infeasible}
use Rattle.valid_log.specs.declared.verdict.LogVerdict.TheVariants as verdict
use Rattle.valid_log.specs.Claims.{SaysOfPlans}
use Rattle.valid_log.specs.PlantLogs.{IsAnyChecked}
use Rattle.valid_log.specs.SumTexts.{larger_claim}
use Rattle.log_nodes.specs.Texts.{IsTextBehind}
use Rattle.log_parts.specs.declared.heads.Declared.{Declared}
use Rattle.log_parts.specs.declared.joining.ClaimedPlan.{ClaimedPlan}
use Rattle.log_parts.specs.Heads.{HasNewest, declared_text, joined_version}
use Rattle.log_parts.specs.Joining.{IsBestCap, IsBestPlan, cap_of}
use Rattle.log_parts.specs.PartLogs.{logs_of, no_tree}
use Rattle.opened_logs.specs.declared.opened.Opened.{Opened}
use Rattle.opened_logs.specs.Opened.{IsOpened, front_of}
use Rattle.opened_logs.specs.Claims.{IsNoMore, IsOpenClaim}
use Rattle.log_merging.specs.declared.merged.Merged.{Merged}
use Rattle.log_merging.specs.declared.merged.Merged.TheVariants.{Done, No}
use Rattle.merged_nodes.specs.Merged.{IsMerged}
use Rattle.merge_ends.specs.MergedClaims.{IsOrder, IsClaimWith}
use Rattle.merge_checks.specs.CheckedLogs.{AreValidTo, IsRefusedToMerge}

-- the bytes are a valid log of the plant with this claim, whose head declares this, and behind it stands this proof
pub record IsLogToMerge (plant : Plant) (bytes : List ℕ) (declared : Declared) (tree : RowTree) (claim : Claim) : Type 0 where
  pub valid : IsAnyChecked plant bytes (verdict.Yes claim)
  pub own : Opened
  pub opened : IsOpened plant bytes own
  pub same_head : own.head.declared ≡ declared
  pub text : IsTextBehind (front_of own.head) bytes tree

-- The bytes are the log that is merged of so many logs. Each of these is valid, and all have the same head; the bytes are the text of that
-- head, of the proof that is merged of theirs in the order of the caps of their claims, and of the merged claim: the best of their plans,
-- and the cap of the merged proof. It is of version 4 where one of them is. It is a valid log of the plant; its cap is at most the greatest
-- of theirs, and where one of them leaves nothing open, it does not.
pub record IsMergedLog (plant : Plant) (count : ℕ) (logs : ℕ → List ℕ) (claim : Claim) (bytes : List ℕ) : Type 0 where
  pub first : Opened
  pub opened : IsOpened plant (logs 0) first
  pub trees : List RowTree
  pub claims : List Claim
  pub all_trees : length trees ≡ count
  pub all_claims : length claims ≡ count
  pub each : (number : ℕ) → number < count → IsLogToMerge plant (logs number) first.head.declared (slice_index_or trees number no_tree) (slice_index_or claims number Infeasible)
  pub plan : Option ClaimedPlan
  pub best : IsBestPlan claims plan
  pub order : List ℕ
  pub ordered : IsOrder claims order
  pub tree : RowTree
  pub merged : IsMerged (steps_of first.rows) (option_map (λ (p : ClaimedPlan). p.profit) plan) (view_of first.rows.program.root) (map (λ number. Some (slice_index_or trees number no_tree)) order) tree
  pub is_claim : IsClaimWith plan (tree_cap (steps_of first.rows) (view_of first.rows.program.root) tree) claim
  pub newest : Bool
  pub is_newest : (newest ≡ true) ↔ HasNewest logs count
  pub text : bytes ≡ declared_text (joined_version newest first.head.declared.sums) first.head.declared tree (larger_claim first.head.declared.sums claim)
  pub valid : IsAnyChecked plant bytes (verdict.Yes claim)
  pub greatest : Option ℤ
  pub most : IsBestCap claims greatest
  pub cap : IsNoMore greatest (cap_of claim)
  pub settled : (number : ℕ) → number < count → ¬ IsOpenClaim (slice_index_or claims number Infeasible) → ¬ IsOpenClaim claim

-- What merging comes to: the merged log and its claim, or the first log that is not valid or has another head than the first, with its
-- defect.
abbrev pub IsMerging : Plant → ℕ → (ℕ → List ℕ) → List ℕ → Merged → Type 0
IsMerging plant count logs bytes (Done claim) = IsMergedLog plant count logs claim bytes
IsMerging plant count logs bytes (No number defect) =
    (number < count) × ((declared : Declared) × (AreValidTo plant logs declared number × IsRefusedToMerge plant number (logs number) declared defect))

-- what merging comes to is right of the files before and after, where they are told
abbrev pub IsMergingIn : Plant → ℕ → List ℕ → List ℕ → Option FileMap → Option FileMap → Merged → Type 0
IsMergingIn plant count stem out old new said = IfSome old (λ m. IfSome new (λ n. IsMerging plant count (logs_of m stem) (file_of n out) said))

-- what the merged claim says holds of all plans
abbrev pub MergeSays : Plant → Merged → Type 0
MergeSays plant (Done claim) = SaysOfPlans plant claim
MergeSays plant (No number defect) = ⊤

-- a log was named that is refused
abbrev pub NamesRefused : Merged → Type 0
NamesRefused (Done claim) = ⊥
NamesRefused (No number defect) = ⊤

-- the logs are all valid and have the same head, where the files are told
abbrev pub AreMergeable : Plant → ℕ → List ℕ → Option FileMap → Type 0
AreMergeable plant count stem files = IfSome files (λ m. (declared : Declared) × AreValidTo plant (logs_of m stem) declared count)

-- the files are as before, or all logs are valid and have the same head, and were merged
abbrev pub LeavesMerge : Plant → ℕ → List ℕ → Option FileMap → Option FileMap → Type 0
LeavesMerge plant count stem old new = (new ≡ old) ⊎ AreMergeable plant count stem old
