-- The answer of `merge`: its text, when it is right, and what it leaves.
use Rattle.std.specs.Prelude.{◌≡◌, ℕ, List, ◌++◌, map, codes, Option, Ok}
use Rattle.std.specs.List.{range_with_len}
use Rattle.stn_edge.specs.Files.{FileMap}
use Rattle.stn_model.specs.declared.plant.Plant.{Plant}
use Rattle.plant_text.specs.Reading.{reading}
use Rattle.proof_log.specs.LogNames.{log_name}
use Rattle.log_merging.specs.declared.merged.Merged.{Merged}
use Rattle.log_merging.specs.declared.merged.Merged.TheVariants.{Done, No}
use Rattle.log_merging.specs.MergedLogs.{IsMergingIn, NamesRefused, LeavesMerge, MergeSays}
use Rattle.command_replies.specs.Sources.{IsReadOf}
use Rattle.answer_texts.specs.Lines.{numbered_defect}
use Rattle.answer_texts.specs.Checking.{claim_words}

-- the names of the logs of a stem that are merged, so many
unfoldable pub merged_names : List ℕ → ℕ → List (List ℕ)
merged_names stem count = map (log_name stem) (range_with_len 0 count)

-- the line on a merging: the merged claim, or what speaks against the first log that is refused
unfoldable pub merge_text : Merged → List ℕ
merge_text (Done claim) = codes "merged " ++ claim_words claim
merge_text (No number defect) = numbered_defect number defect

-- the exit status of a merging
abbrev pub merge_status : Merged → ℕ
merge_status (Done claim) = 0
merge_status (No number defect) = 1

-- The answer of `merge`: what merging comes to, with its status and its text. Where the files are told, it is right of them; what the
-- merged claim says holds of all plans, and where a log is refused no file has changed.
pub record MergeAnswered (old new : Option FileMap) (count : ℕ) (stem out : List ℕ) (plant : Plant) (status : ℕ) (text : List ℕ) : Type 0 where
  pub said : Merged
  pub right : IsMergingIn plant count stem out old new said
  pub says : MergeSays plant said
  pub kept : NamesRefused said → new ≡ old
  pub status_is : status ≡ merge_status said
  pub text_is : text ≡ merge_text said

-- the plant in a file was read, and the files are as before, or logs were judged valid and were merged
pub record HoldsMerged (old new : Option FileMap) (name : List ℕ) (count : ℕ) (stem : List ℕ) : Type 0 where
  pub plant : Plant
  pub read : IsReadOf reading old name (Ok plant)
  pub holds : LeavesMerge plant count stem old new
