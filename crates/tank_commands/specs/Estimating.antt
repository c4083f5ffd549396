-- The answer of `whatif`: its text, and when it is right.
use Rattle.std.specs.Prelude.{◌≡◌, ◌⊎◌, ℕ, zero, suc, ◌+◌, nat_lt, ◌==◌, Bool, ◌&&◌, not, MatchBool, List, [], ◌++◌, length, bytes_eq, codes, decimal, position, Option, Some, None, MatchOption, ℤ}
use Rattle.std.specs.Fmt.{signed_decimal}
use Rattle.stn_model.specs.declared.plant.Plant.{Plant}
use Rattle.stn_model.specs.declared.plant.State.{State}
use Rattle.stn_model.specs.declared.start.Start.{Start}
use Rattle.stn_model.specs.Plant.{state_at}
use Rattle.row_relax.specs.RowProofs.{RowTree}
use Rattle.proof_log.specs.declared.claim.Claim.{Claim}
use Rattle.log_lines.specs.declared.defect.Defect.{Defect}
use Rattle.valid_log.specs.declared.verdict.LogVerdict.TheVariants.{No}
use Rattle.valid_log.specs.PlantLogs.{IsAnyChecked}
use Rattle.what_if.specs.declared.old.LogHead.{LogHead}
use Rattle.what_if.specs.Estimate.{IsEstimate, IsProofCap}
use Rattle.what_if.specs.OldLogs.{ClaimsPlan, IsValidFor}
use Rattle.what_if.specs.Raised.{raised}
use Rattle.command_words.specs.declared.uses.PlanUse.TheVariants.{Simulate}
use Rattle.answer_texts.specs.Checking.{checked_text}
use Rattle.answer_texts.specs.Simulation.{Simulated}

-- the state has this name, and limits
abbrev pub is_tank : List ℕ → State → Bool
is_tank name state = bytes_eq state.name name && not (length state.limits == 0)

-- the number of the state with limits of this name, if there is one
unfoldable pub tank_number : Plant → List ℕ → Option ℕ
tank_number plant name = position (is_tank name) plant.states

-- a cap as it is printed: none says that no plan is feasible
abbrev pub cap_word : Option ℤ → List ℕ
cap_word None = codes "none"
cap_word (Some cap) = signed_decimal cap

-- a line up to what is printed of the old plan: its number and a cap
unfoldable pub line_head : ℕ → Option ℤ → List ℕ
line_head number cap = decimal number ++ (codes " cap " ++ (cap_word cap ++ codes " "))

-- the first line: the name of a state
unfoldable pub text_head : Plant → ℕ → List ℕ
text_head plant number = codes "whatif " ++ ((state_at plant number).name ++ codes "\n")

-- what is printed of an old plan on a plant: what `simulate` prints of it, and a dash where there is none
abbrev pub IsStanding : Plant → Option (List Start) → List ℕ → Type 0
IsStanding plant None text = text ≡ codes "-\n"
IsStanding plant (Some plan) text = (status : ℕ) × Simulated Simulate plant plan status text

-- the caps of a plant by the proof of an old log with a head all answer to the proof's own
abbrev pub AreOwn : Plant → LogHead → RowTree → Type 0
AreOwn plant head proof = (cap : Option ℤ) → IsEstimate plant head proof cap → IsProofCap plant head proof cap

-- The line of a plant: a number, what no plan of it earns more than by the proof of an old log with a head, and what is printed of an
-- old plan. On the line of number 0, whose plant is the log's, it is the cap that the proof itself has; in version 4, where splits have
-- caps of their own, it is at most that.
pub record IsTankLine (plant : Plant) (head : LogHead) (proof : RowTree) (plan : Option (List Start)) (number : ℕ) (line : List ℕ) : Type 0 where
  pub cap : Option ℤ
  pub estimate : IsEstimate plant head proof cap
  pub own : number ≡ 0 → IsProofCap plant head proof cap
  pub standing : List ℕ
  pub stands : IsStanding plant plan standing
  pub text_is : line ≡ line_head number cap ++ standing

-- a text of so many lines, each of which is right of its number
abbrev pub AreLines : (ℕ → List ℕ → Type 0) → ℕ → List ℕ → Type 0
AreLines IsLine zero text = text ≡ []
AreLines IsLine (suc n) text = (before : List ℕ) × ((line : List ℕ) × (AreLines IsLine n before × IsLine n line × (text ≡ before ++ line)))

-- The text on a valid log: the state's name, and a line for each plant whose limits of the state are raised by no step, by
-- one, and so on.
pub record IsTankText (plant : Plant) (number : ℕ) (step : ℤ) (count : ℕ) (head : LogHead) (proof : RowTree) (claim : Claim) (text : List ℕ) : Type 0 where
  pub plan : Option (List Start)
  pub has : ClaimsPlan plant claim plan
  pub lines : List ℕ
  pub are : AreLines (λ times. IsTankLine (raised plant number step times) head proof plan times) (count + 1) lines
  pub text_is : text ≡ text_head plant number ++ lines

-- the bytes are a log of any version with this first defect, which the text says
pub record IsRefusedLog (plant : Plant) (log : List ℕ) (status : ℕ) (text : List ℕ) : Type 0 where
  pub defect : Defect
  pub right : IsAnyChecked plant log (No defect)
  pub status_is : status ≡ 1
  pub text_is : text ≡ checked_text (No defect)

-- the bytes are a valid log of any version, and the text is that of the raised plants
pub record IsEstimated (plant : Plant) (number : ℕ) (step : ℤ) (count : ℕ) (log : List ℕ) (status : ℕ) (text : List ℕ) : Type 0 where
  pub head : LogHead
  pub proof : RowTree
  pub claim : Claim
  pub valid : IsValidFor plant log head proof claim
  pub status_is : status ≡ 0
  pub says : IsTankText plant number step count head proof claim text

-- the answer for a state with limits: a log that is too long, or has a defect, or the text of the raised plants
abbrev pub OnTank : Plant → ℕ → ℤ → ℕ → List ℕ → ℕ → List ℕ → Type 0
OnTank plant number step count log status text =
    MatchBool (nat_lt 67108864 (length log)) ((status ≡ 1) × (text ≡ codes "no 0 17\n"))
    (IsRefusedLog plant log status text ⊎ IsEstimated plant number step count log status text)

-- the answer of `whatif`: a name that is not that of a state with limits is refused, whatever the log is
abbrev pub Estimated : List ℕ → ℤ → ℕ → List ℕ → Plant → ℕ → List ℕ → Type 0
Estimated name step count log plant status text =
    MatchOption (tank_number plant name) ((status ≡ 5) × (text ≡ codes "refused state\n")) (λ number. OnTank plant number step count log status text)

-- there are bytes, those of the file where it is told, on which this is the answer
pub record OnBytes (told : Option (List ℕ)) (Answers : List ℕ → Type 0) : Type 0 where
  pub bytes : List ℕ
  pub are : MatchOption told (Unit {0}) (λ file. bytes ≡ file)
  pub answers : Answers bytes
