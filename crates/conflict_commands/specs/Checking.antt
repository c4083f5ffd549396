-- The answer of `check-conflict`: its text, and when it is right.
use Rattle.std.specs.Prelude.{◌≡◌, ℕ, ⊤, Bool, List, ◌++◌, Vec, Result, Ok, Err, MatchResult, Some, None, Option, IfSome, codes, decimal}
use Rattle.std.specs.Global.{Global}
use Rattle.stn_edge.specs.Files.{FileMap, file_of}
use Rattle.stn_model.specs.declared.plant.Plant.{Plant}
use Rattle.stn_model.specs.Best.{NoPlan}
use Rattle.proof_log.specs.LogNames.{log_name}
use Rattle.fewer_orders.specs.Alone.{alone}
use Rattle.least_horizon.specs.Stems.{IsJudged}
use Rattle.order_text.specs.Marks.{kept_count}
use Rattle.order_text.specs.ReadConflict.{conflict_read}
use Rattle.answer_texts.specs.Lines.{numbered_defect}
use Rattle.conflict_commands.specs.declared.checking.ConflictVerdict.{ConflictVerdict}
use Rattle.conflict_commands.specs.declared.checking.ConflictVerdict.TheVariants.{Yes, NoText, NoLog}
use Rattle.conflict_commands.specs.declared.checking.TextStop.{TextStop}
use Rattle.conflict_commands.specs.declared.checking.TextStop.TheVariants.{Bad, Fault, Memory}

-- The verdict is right of the plant, the text and the log: yes where the text names deliveries, and nothing speaks against the log as one
-- of the plant with those alone that shows that no plan is feasible; else the first defect of the text, or what speaks against the log.
abbrev pub IsVerdictOn : Plant → List ℕ → List ℕ → ConflictVerdict → Type 0
IsVerdictOn plant text log (Yes kept) = (conflict_read plant text ≡ Ok kept.items) × IsJudged (alone plant kept.items) log None
IsVerdictOn plant text log (NoText defect) = conflict_read plant text ≡ Err defect
IsVerdictOn plant text log (NoLog kept defect) = (conflict_read plant text ≡ Ok kept.items) × IsJudged (alone plant kept.items) log (Some defect)

-- the verdict is right of STEM.0 and STEM.1, where the files are told
abbrev pub IsRightOn : Plant → Option FileMap → List ℕ → ConflictVerdict → Type 0
IsRightOn plant files stem verdict = IfSome files (λ m. IsVerdictOn plant (file_of m (log_name stem 0)) (file_of m (log_name stem 1)) verdict)

-- a yes says that no plan meets the deliveries that the text names, whether the files are told or not
abbrev pub YesSaysNoPlan : Plant → ConflictVerdict → Type 0
YesSaysNoPlan plant (Yes kept) = NoPlan (alone plant kept.items)
YesSaysNoPlan plant (NoText defect) = ⊤
YesSaysNoPlan plant (NoLog kept defect) = ⊤

-- the text in a file names these deliveries, or has this first defect, where files are told
abbrev pub IsTextStop : Plant → Option FileMap → List ℕ → TextStop → Type 0
IsTextStop plant files name (Bad defect) = IfSome files (λ m. conflict_read plant (file_of m name) ≡ Err defect)
IsTextStop plant files name Fault = ⊤
IsTextStop plant files name Memory = ⊤

abbrev pub ReadsText : Plant → Option FileMap → List ℕ → Result (Vec Bool Global) TextStop → Type 0
ReadsText plant files name answer =
    MatchResult answer (λ kept. IfSome files (λ m. conflict_read plant (file_of m name) ≡ Ok kept.items)) (IsTextStop plant files name)

-- the verdict on a log of the plant with these deliveries alone is right
abbrev pub IsKeptChecked : Plant → Option FileMap → List ℕ → List Bool → ConflictVerdict → Type 0
IsKeptChecked plant files name kept (Yes own) = (own.items ≡ kept) × IfSome files (λ m. IsJudged (alone plant kept) (file_of m name) None) × NoPlan (alone plant kept)
IsKeptChecked plant files name kept (NoText defect) = ⊥
IsKeptChecked plant files name kept (NoLog own defect) = (own.items ≡ kept) × IfSome files (λ m. IsJudged (alone plant kept) (file_of m name) (Some defect))

-- the line on a text and a log: how many deliveries can't be met together, or what speaks against the text (0) or the log (1)
unfoldable pub check_text : ConflictVerdict → List ℕ
check_text (Yes kept) = codes "yes conflict " ++ (decimal (kept_count kept.items) ++ codes "\n")
check_text (NoText defect) = numbered_defect 0 defect
check_text (NoLog kept defect) = numbered_defect 1 defect

-- the exit status of such a check
abbrev pub check_status : ConflictVerdict → ℕ
check_status (Yes kept) = 0
check_status (NoText defect) = 1
check_status (NoLog kept defect) = 1

-- The answer of `check-conflict`: a verdict, with its status and its text. Where the files are told, it is the right one on STEM.0 and STEM.1.
pub record ConflictChecked (files : Option FileMap) (stem : List ℕ) (plant : Plant) (status : ℕ) (text : List ℕ) : Type 0 where
  pub verdict : ConflictVerdict
  pub right : IsRightOn plant files stem verdict
  pub says : YesSaysNoPlan plant verdict
  pub status_is : status ≡ check_status verdict
  pub text_is : text ≡ check_text verdict
