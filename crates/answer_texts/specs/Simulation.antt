-- The answer of `simulate`, `report`, `picture`, `table` and `violations`: its text, and when it is right.
use Rattle.std.specs.Prelude.{◌≡◌, ◌<◌, ◌+◌, ℕ, ℤ, length, List, ◌++◌, codes, decimal}
use Rattle.stn_model.specs.declared.plant.Plant.{Plant}
use Rattle.stn_model.specs.declared.start.Start.{Start}
use Rattle.stn_model.specs.Plant.{state_at, utility_at}
use Rattle.stn_model.specs.declared.violation.Violation.{Violation}
use Rattle.stn_model.specs.declared.violation.Violation.TheVariants.{Unfit, Busy, Early, Gap, StockLow, StockHigh, Load}
use Rattle.plan_sim.specs.declared.verdict.Verdict.{Verdict}
use Rattle.plan_sim.specs.declared.verdict.Verdict.TheVariants.{Feasible, Broken}
use Rattle.plan_sim.specs.Verdicts.{IsPlanVerdict}
use Rattle.gantt_report.specs.Report.{report_text}
use Rattle.plan_picture.specs.Picture.{picture_text}
use Rattle.plan_tables.specs.Tables.{table_text}
use Rattle.answer_texts.specs.Lines.{amount_line}
use Rattle.answer_texts.specs.Violations.{violations_text}
use Rattle.command_words.specs.declared.uses.PlanUse.{PlanUse}
use Rattle.command_words.specs.declared.uses.PlanUse.TheVariants.{Simulate, Report, Picture, Table, Violations}

-- a line on a place of a plan, which is counted from 1
abbrev pub place_line : List ℕ → ℕ → List ℕ
place_line what place = what ++ (decimal (place + 1) ++ codes "\n")

-- a line on two places of a plan, which are counted from 1
abbrev pub pair_line : List ℕ → ℕ → ℕ → List ℕ
pair_line what first second = what ++ (decimal (first + 1) ++ (codes " " ++ (decimal (second + 1) ++ codes "\n")))

-- a line on a name and a time or period
abbrev pub named_line : List ℕ → List ℕ → ℕ → List ℕ
named_line what name number = what ++ (name ++ (codes " " ++ (decimal number ++ codes "\n")))

-- the line on what a plan breaks first: places count from 1, states and utilities go by name, and 0 stands for the batch before the plan
unfoldable pub violation_text : Plant → Violation → List ℕ
violation_text plant (Unfit place) = place_line (codes "broken unfit ") place
violation_text plant (Busy first second) = pair_line (codes "broken busy ") first second
violation_text plant (Early place) = place_line (codes "broken gap 0 ") place
violation_text plant (Gap first second) = pair_line (codes "broken gap ") first second
violation_text plant (StockLow state time) = named_line (codes "broken stock-low ") (state_at plant state).name time
violation_text plant (StockHigh state time) = named_line (codes "broken stock-high ") (state_at plant state).name time
violation_text plant (Load utility period) = named_line (codes "broken load ") (utility_at plant utility).name period

-- the text that a use of a feasible plan puts: what it earns, its report, its picture, or one of its tables
abbrev pub feasible_text : PlanUse → Plant → List Start → ℤ → List ℕ
feasible_text Simulate plant plan earned = amount_line (codes "feasible ") earned
feasible_text Report plant plan earned = report_text plant plan
feasible_text Picture plant plan earned = picture_text plant plan
feasible_text (Table kind) plant plan earned = table_text kind plant plan
feasible_text Violations plant plan earned = amount_line (codes "feasible ") earned

-- the text that a use of a plan that is not feasible puts: what it breaks first, or everything that it breaks
abbrev pub broken_text : PlanUse → Plant → List Start → Violation → List ℕ
broken_text Simulate plant plan violation = violation_text plant violation
broken_text Report plant plan violation = violation_text plant violation
broken_text Picture plant plan violation = violation_text plant violation
broken_text (Table kind) plant plan violation = violation_text plant violation
broken_text Violations plant plan violation = violations_text plant plan

-- the text that a use of a plan puts: that of a feasible plan, or what it breaks
abbrev pub use_text : PlanUse → Plant → List Start → Verdict → List ℕ
use_text usage plant plan (Feasible earned) = feasible_text usage plant plan earned
use_text usage plant plan (Broken violation) = broken_text usage plant plan violation

-- the exit status of a verdict
abbrev pub verdict_status : Verdict → ℕ
verdict_status (Feasible earned) = 0
verdict_status (Broken violation) = 1

-- the violation names a state or a utility of the plant
abbrev pub IsOfPlant : Plant → Violation → Type 0
IsOfPlant plant (Unfit place) = Unit {0}
IsOfPlant plant (Busy first second) = Unit {0}
IsOfPlant plant (Early place) = Unit {0}
IsOfPlant plant (Gap first second) = Unit {0}
IsOfPlant plant (StockLow state time) = state < length plant.states
IsOfPlant plant (StockHigh state time) = state < length plant.states
IsOfPlant plant (Load utility period) = utility < length plant.utilities

-- the answer of `simulate`, `report`, `picture`, `table` and `violations`: the right verdict on the plan, with its status and its text
pub record Simulated (usage : PlanUse) (plant : Plant) (plan : List Start) (status : ℕ) (text : List ℕ) : Type 0 where
  pub verdict : Verdict
  pub right : IsPlanVerdict plant plan verdict
  pub status_is : status ≡ verdict_status verdict
  pub text_is : text ≡ use_text usage plant plan verdict
