-- The answer of `join`: its text, when it is right, and what it leaves.
use Rattle.std.specs.Prelude.{◌≡◌, ◌≤◌, ◌⊎◌, ◌^◌, ℕ, List, ◌++◌, length, map, codes, Option, Ok}
use Rattle.std.specs.List.{range_with_len}
use Rattle.stn_edge.specs.Files.{FileMap}
use Rattle.stn_model.specs.declared.plant.Plant.{Plant}
use Rattle.plant_text.specs.Reading.{reading}
use Rattle.time_grid.specs.Slots.{slots}
use Rattle.proof_log.specs.LogNames.{log_name}
use Rattle.log_parts.specs.declared.joins.Joined.{Joined}
use Rattle.log_parts.specs.declared.joins.Joined.TheVariants.{Done, No}
use Rattle.log_parts.specs.PartLogs.{IsJoiningIn, JoinSays, IsNo, LeavesJoin}
use Rattle.command_replies.specs.Sources.{IsReadOf}
use Rattle.answer_texts.specs.Lines.{numbered_defect}
use Rattle.answer_texts.specs.Checking.{claim_words}

-- the names of the logs of a stem for the parts of so many levels
unfoldable pub part_names : List ℕ → ℕ → List (List ℕ)
part_names stem levels = map (log_name stem) (range_with_len 0 (2 ^ levels))

-- the line on a joining: the joined claim, or what speaks against the first log that is refused
unfoldable pub join_text : Joined → List ℕ
join_text (Done claim) = codes "joined " ++ claim_words claim
join_text (No part defect) = numbered_defect part defect

-- the exit status of a joining
abbrev pub join_status : Joined → ℕ
join_status (Done claim) = 0
join_status (No part defect) = 1

-- The answer of `join`, where the plant has a slot for each level: what joining comes to, with its status and its text. Where the
-- files are told, it is right of them; what the joined claim says holds of all plans, and where a log is refused no file has
-- changed.
pub record JoinAnswered (old new : Option FileMap) (levels : ℕ) (stem log : List ℕ) (plant : Plant) (status : ℕ) (text : List ℕ) : Type 0 where
  pub said : Joined
  pub right : IsJoiningIn plant levels stem log old new said
  pub says : JoinSays plant said
  pub kept : IsNo said → new ≡ old
  pub status_is : status ≡ join_status said
  pub text_is : text ≡ join_text said

-- what joining leaves in the file of its log: it is as it was, or the plant has a slot for each level and it holds the joined log,
-- begun or whole
abbrev pub LeavesJoined : Plant → ℕ → List ℕ → List ℕ → Option FileMap → Option FileMap → Type 0
LeavesJoined plant levels stem log old new = (new ≡ old) ⊎ ((levels ≤ length (slots plant)) × LeavesJoin plant levels stem log old new)

-- the plant in a file was read, and the file of a log is as it was, or holds the joined log
pub record HoldsJoined (old new : Option FileMap) (name : List ℕ) (levels : ℕ) (stem log : List ℕ) : Type 0 where
  pub plant : Plant
  pub read : IsReadOf reading old name (Ok plant)
  pub holds : LeavesJoined plant levels stem log old new
