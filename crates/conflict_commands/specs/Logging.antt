-- The answer of `conflict` that is written with its log, and what is left of it.
use Rattle.std.specs.Prelude.{◌≡◌, ◌≢◌, ◌⊎◌, ℕ, List, take, Option, IfSome, Ok}
use Rattle.stn_edge.specs.Files.{FileMap, file_of}
use Rattle.stn_model.specs.declared.plant.Plant.{Plant}
use Rattle.plant_text.specs.Reading.{reading}
use Rattle.plan_told.specs.Proofs.{bytes_in}
use Rattle.proof_log.specs.LogNames.{log_name}
use Rattle.command_replies.specs.declared.reply.Reply.{Reply}
use Rattle.command_replies.specs.Sources.{IsReadOf}
use Rattle.order_conflict.specs.declared.answer.ConflictAnswer.{ConflictAnswer}
use Rattle.order_conflict.specs.Logged.{FileStays, IsLogOf, LeavesStepLog}
use Rattle.conflict_commands.specs.Finding.{answer_status, answer_text}

-- every file is as it was, but STEM.0 and STEM.1
abbrev pub OthersStayPair : List ℕ → Option FileMap → Option FileMap → Type 0
OthersStayPair stem old new = (name : List ℕ) → name ≢ log_name stem 0 → name ≢ log_name stem 1 → FileStays name old new

-- The answer of `conflict` with STEM: a right one, with its status and its text. Where the files are told, STEM.1 is the log of the
-- deliveries that are left, or as it was where there is no conflict, and STEM.0 is the text.
pub record FoundWithLog (budget : ℕ) (stem : List ℕ) (old new : Option FileMap) (plant : Plant) (status : ℕ) (text : List ℕ) : Type 0 where
  pub said : ConflictAnswer
  pub right : IsLogOf plant budget (log_name stem 1) old new said
  pub written : IfSome (bytes_in (log_name stem 0) new) (λ bytes. bytes ≡ text)
  pub status_is : status ≡ answer_status said
  pub text_is : text ≡ answer_text plant said

-- the file is as it was, or a first part of these bytes
abbrev pub IsTextBegun : List ℕ → List ℕ → Option FileMap → Option FileMap → Type 0
IsTextBegun name bytes old new = FileStays name old new ⊎ ((count : ℕ) × IfSome (bytes_in name new) (λ own. own ≡ take count bytes))

-- the reply is that of the answer, and STEM.0 holds its text
pub record IsPut (plant : Plant) (said : ConflictAnswer) (stem : List ℕ) (files : Option FileMap) (reply : Reply) : Type 0 where
  pub status_is : reply.status ≡ answer_status said
  pub text_is : reply.text.items ≡ answer_text plant said
  pub told : IfSome files (λ m. file_of m (log_name stem 0) ≡ reply.text.items)

-- What is left of an answer: the log as it was, or begun, while STEM.0 is as it was; or the log of an answer, while STEM.0 is as it was, or
-- a first part of its text, or the whole.
abbrev pub LeavesConflict : Plant → ℕ → List ℕ → Option FileMap → Option FileMap → Type 0
LeavesConflict plant budget stem old new =
    (LeavesStepLog plant budget (log_name stem 1) old new × FileStays (log_name stem 0) old new)
    ⊎ ((said : ConflictAnswer) × (IsLogOf plant budget (log_name stem 1) old new said × IsTextBegun (log_name stem 0) (answer_text plant said) old new))

-- the plant in a file was read, and this is left of its answer
pub record HoldsConflict (budget : ℕ) (old new : Option FileMap) (name stem : List ℕ) : Type 0 where
  pub plant : Plant
  pub read : IsReadOf reading old name (Ok plant)
  pub left : LeavesConflict plant budget stem old new
