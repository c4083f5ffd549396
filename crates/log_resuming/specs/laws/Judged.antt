-- What is judged of a log that was written. Only clauses of private functions cite it.
use Rattle.std.specs.Prelude.{◌≡◌, ◌+◌, ◌≤◌, ℕ, List, Option, None}
use Rattle.stn_model.specs.declared.plant.Plant.{Plant}
use Rattle.row_relax.specs.View.{view_of}
use Rattle.row_relax.specs.RowProofs.{RowTree}
use Rattle.branch_tree.specs.Searched.{IsSearchable}
use Rattle.proof_log.specs.declared.claim.Claim.{Claim}
use Rattle.log_growth.specs.declared.counts.Growth.{Growth}
use Rattle.log_nodes.specs.declared.pair.Share.{Share}
use Rattle.log_growth.specs.Growth.{IsGrowth}
use Rattle.log_nodes.specs.Texts.{IsTextBehind}
use Rattle.log_parts.specs.declared.heads.LogHead.{LogHead}
use Rattle.valid_log.specs.declared.verdict.LogVerdict.TheVariants.{Yes}
use Rattle.valid_log.specs.PlantLogs.{IsAnyChecked}
use Rattle.opened_logs.specs.declared.opened.Opened.{Opened}
use Rattle.opened_logs.specs.Opened.{IsOpened, front_of}
use Rattle.opened_logs.specs.Claims.{IsNoLess, IsNoMore, IsOpenClaim, cap_of, profit_of}
use Rattle.log_resuming.specs.Resumed.{IsResumed}

-- the proof of a log with this head goes on from that of a log that is opened, as going on from it comes to where at most so many splits may
-- stand one below another
pub record IsMeasured (most : ℕ) (bytes bytes_out : List ℕ) (budget : ℕ) (share : Option Share) (log : Opened) (head : LogHead) (old_claim claim : Claim) (boxes : ℕ) : Type 0 where
  pub tree : RowTree
  pub grown : RowTree
  pub text : IsTextBehind (front_of log.head) bytes tree
  pub text_out : IsTextBehind (front_of head) bytes_out grown
  pub growth : Growth
  pub goes_on : IsGrowth most log.rows (profit_of old_claim) share 0 0 (view_of log.rows.program.root) tree grown growth
  pub boxes_are : boxes ≡ growth.after
  pub within : growth.after ≤ growth.before + budget
  pub exactly : share ≡ None → IsOpenClaim claim → growth.deep ≡ 0 → growth.floors ≡ 0 → IsSearchable most log.rows.program → growth.after ≡ growth.before + budget
  pub profit : IsNoLess (profit_of old_claim) (profit_of claim)
  pub cap : IsNoMore (cap_of old_claim) (cap_of claim)

-- where the first log is valid with its claim and is opened so, the second is one that goes on from it
abbrev pub Judges : Plant → List ℕ → List ℕ → ℕ → Option Share → Opened → Claim → Claim → ℕ → Type 0
Judges plant bytes bytes_out budget share log old_claim claim boxes =
    IsAnyChecked plant bytes (Yes old_claim) → IsOpened plant bytes log → IsResumed plant bytes bytes_out budget share claim boxes
