-- The answer of `least`: its text, when it is right, and what it leaves.
use Rattle.std.specs.Prelude.{◌≡◌, ◌⊎◌, ◌-◌, ℕ, List, [], ◌++◌, All, map, codes, decimal, Option, Ok}
use Rattle.std.specs.Fmt.{signed_decimal}
use Rattle.std.specs.List.{range_with_len}
use Rattle.stn_edge.specs.Files.{FileMap}
use Rattle.stn_model.specs.declared.plant.Plant.{Plant}
use Rattle.stn_model.specs.declared.start.Start.{Start}
use Rattle.plant_text.specs.Reading.{reading}
use Rattle.plan_text.specs.PlanLines.{plan_lines, IsNamed}
use Rattle.plan_text.specs.PlanText.{plan_of_text}
use Rattle.least_horizon.specs.declared.answer.LeastAnswer.{LeastAnswer}
use Rattle.least_horizon.specs.declared.answer.LeastAnswer.TheVariants.{At, Nowhere, Open}
use Rattle.proof_log.specs.LogNames.{log_name}
use Rattle.least_horizon.specs.LogNames.{logs_in, OthersStayBelow}
use Rattle.least_horizon.specs.Least.{IsLeast, IsStopped, untried}
use Rattle.command_replies.specs.Sources.{IsReadOf}
use Rattle.answer_texts.specs.Planning.{IsMoney}

-- the names of the logs of a stem for the horizons from 1 on that are shorter than this one
unfoldable pub log_names : List ℕ → ℕ → List (List ℕ)
log_names stem horizon = map (log_name stem) (range_with_len 1 (horizon - 1))

-- the text of an answer: the least horizon and the plan with its profit, that there is none, or the one that is open
unfoldable pub least_text : Plant → LeastAnswer → List ℕ
least_text plant (At horizon earned plan) =
    codes "# least " ++ (decimal horizon ++ (codes "\n# feasible " ++ (signed_decimal earned ++ (codes "\n" ++ plan_lines plant plan))))
least_text plant Nowhere = codes "# no-horizon\n"
least_text plant (Open horizon) = codes "# open " ++ (decimal horizon ++ codes "\n")

-- the exit status of an answer
abbrev pub least_status : LeastAnswer → ℕ
least_status (At horizon earned plan) = 0
least_status Nowhere = 1
least_status (Open horizon) = 6

-- the starts of the answer's plan name units and tasks of the plant
abbrev pub NamesItems : Plant → LeastAnswer → Type 0
NamesItems plant (At horizon earned plan) = All (IsNamed plant) plan
NamesItems plant Nowhere = Unit {0}
NamesItems plant (Open horizon) = Unit {0}

-- the answer's profit, where it has one, has at most 128 bits, one of them for its sign
abbrev pub EarnsMoney : LeastAnswer → Type 0
EarnsMoney (At horizon earned plan) = IsMoney earned
EarnsMoney Nowhere = Unit {0}
EarnsMoney (Open horizon) = Unit {0}

-- the plan that an answer prints: no starts where it has none
abbrev pub shown_plan : LeastAnswer → List Start
shown_plan (At horizon earned plan) = plan
shown_plan Nowhere = []
shown_plan (Open horizon) = []

-- The answer of `least`: the right least horizon, which is found by solving one horizon after another, with its status and its
-- text, which, read as plan text, says the plan of the answer. Where the bytes of logs are told, they are the logs of the
-- horizons that were solved, and what is said of the horizons from the first on that was not tried holds.
pub record Sought (budget : ℕ) (plant : Plant) (logs : ℕ → Option (List ℕ)) (Untouched : ℕ → Type 0) (status : ℕ) (text : List ℕ) : Type 0 where
  pub said : LeastAnswer
  pub right : IsLeast plant budget logs said
  pub untouched : Untouched (untried plant said)
  pub status_is : status ≡ least_status said
  pub text_is : text ≡ least_text plant said
  pub reads_back : plan_of_text plant text ≡ Ok (shown_plan said)

-- what a search for the least horizon leaves that came to an answer: the logs of a stem are those of the horizons that were solved,
-- and every other file is as it was, be it the log of a horizon that was not tried
pub record LeavesFound (plant : Plant) (budget : ℕ) (stem : List ℕ) (old new : Option FileMap) : Type 0 where
  pub said : LeastAnswer
  pub least : IsLeast plant budget (logs_in stem new) said
  pub others : OthersStayBelow stem (untried plant said) old new

-- the plant in a file was read, and the logs of a stem are those of its horizons: where the last was stopped, or of an answer
pub record HoldsLogs (budget : ℕ) (old new : Option FileMap) (name stem : List ℕ) : Type 0 where
  pub plant : Plant
  pub read : IsReadOf reading old name (Ok plant)
  pub holds : IsStopped plant budget stem old new ⊎ LeavesFound plant budget stem old new
