-- When a log is one that goes on from another.
use Rattle.std.specs.Prelude.{◌≡◌, ◌⊎◌, ◌+◌, ◌≤◌, ⊤, ℕ, ℤ, ◌≤ℤ◌, List, Option, Some, None, IfSome}
use Rattle.stn_edge.specs.Files.{FileMap, file_of}
use Rattle.stn_model.specs.Points.{depth_limit}
use Rattle.stn_model.specs.declared.plant.Plant.{Plant}
use Rattle.row_relax.specs.RowProofs.{RowTree}
use Rattle.row_relax.specs.View.{view_of}
use Rattle.branch_tree.specs.Searched.{IsSearchable}
use Rattle.proof_log.specs.declared.claim.Claim.{Claim}
use Rattle.log_growth.specs.declared.counts.Growth.{Growth}
use Rattle.log_nodes.specs.declared.pair.Share.{Share}
use Rattle.log_growth.specs.Growth.{IsGrowth}
use Rattle.log_nodes.specs.Texts.{IsTextBehind}
use Rattle.valid_log.specs.declared.verdict.LogVerdict.TheVariants as verdict
use Rattle.valid_log.specs.Claims.{SaysOfPlans}
use Rattle.valid_log.specs.PlantLogs.{IsAnyChecked}
use Rattle.opened_logs.specs.declared.opened.Opened.{Opened}
use Rattle.log_resuming.specs.declared.resumed.Resumed.{Resumed}
use Rattle.log_resuming.specs.declared.resumed.Resumed.TheVariants.{Done, No}
use Rattle.opened_logs.specs.Opened.{IsOpened, front_of}
use Rattle.opened_logs.specs.Claims.{IsNoLess, IsNoMore, IsOpenClaim, cap_of, profit_of}

-- Two valid logs of a plant, of which the second goes on from the first with at most so many boxes more. It has the head of the first, in
-- version 4. Its proof is that of the first, where proofs may stand in the place of open ends of the share; open is an end whose cap is above
-- the profit of the first one's claim. It is of at least that profit, and has at most that cap.
pub record IsResumed (plant : Plant) (bytes bytes_out : List ℕ) (budget : ℕ) (share : Option Share) (claim : Claim) (boxes : ℕ) : Type 0 where
  pub old_claim : Claim
  pub old_checked : IsAnyChecked plant bytes (verdict.Yes old_claim)
  pub checked : IsAnyChecked plant bytes_out (verdict.Yes claim)
  pub log : Opened
  pub out : Opened
  pub opened : IsOpened plant bytes log
  pub opened_out : IsOpened plant bytes_out out
  pub same_head : out.head.declared ≡ log.head.declared
  pub newest : out.head.version ≡ 4
  pub tree : RowTree
  pub grown : RowTree
  pub text : IsTextBehind (front_of log.head) bytes tree
  pub text_out : IsTextBehind (front_of out.head) bytes_out grown
  pub growth : Growth
  pub goes_on : IsGrowth (depth_limit plant) log.rows (profit_of old_claim) share 0 0 (view_of log.rows.program.root) tree grown growth
  pub boxes_are : boxes ≡ growth.after
  pub within : growth.after ≤ growth.before + budget
  -- where something is left open, exactly so many, but for ends that stand too deep, splits with floors above the first claim's plan, and
  -- programs too large to search
  pub exactly : share ≡ None → IsOpenClaim claim → growth.deep ≡ 0 → growth.floors ≡ 0 → IsSearchable (depth_limit plant) log.rows.program → growth.after ≡ growth.before + budget
  pub profit : IsNoLess (profit_of old_claim) (profit_of claim)
  pub cap : IsNoMore (cap_of old_claim) (cap_of claim)

-- what going on from a log comes to is right of the bytes of both logs: the second goes on from the first, or the first is not valid
abbrev pub IsResuming : Plant → ℕ → Option Share → List ℕ → List ℕ → Resumed → Type 0
IsResuming plant budget share bytes bytes_out (Done claim boxes) = IsResumed plant bytes bytes_out budget share claim boxes
IsResuming plant budget share bytes bytes_out (No defect) = IsAnyChecked plant bytes (verdict.No defect)

-- the same of the files before and after, where they are told
abbrev pub IsResumingIn : Plant → ℕ → Option Share → List ℕ → List ℕ → Option FileMap → Option FileMap → Resumed → Type 0
IsResumingIn plant budget share log out old new said =
    IfSome old (λ m. IfSome new (λ n. IsResuming plant budget share (file_of m log) (file_of n out) said))

-- what is claimed holds of all plans
abbrev pub ResumedSays : Plant → Resumed → Type 0
ResumedSays plant (Done claim boxes) = SaysOfPlans plant claim
ResumedSays plant (No defect) = ⊤

-- the files are as before, or a log that was judged valid was gone on from
abbrev pub LeavesResumed : Plant → List ℕ → Option FileMap → Option FileMap → Type 0
LeavesResumed plant log old new = (new ≡ old) ⊎ IfSome old (λ m. (claim : Claim) × IsAnyChecked plant (file_of m log) (verdict.Yes claim))
