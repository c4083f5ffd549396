-- What planning over a part of a plant's choices comes to.
use Rattle.std.specs.Prelude.{ℕ, ◌-◌, ◌*◌, List}
use Rattle.stn_model.specs.declared.plant.Plant.{Plant}
use Rattle.stn_model.specs.declared.start.Start.{Start}
use Rattle.stn_model.specs.declared.answer.Outcome.{Outcome}
use Rattle.stn_model.specs.Answers.{IsOutcomeOf}
use Rattle.row_kit.specs.declared.program.Program.{Program}
use Rattle.row_kit.specs.Points.{points_of}
use Rattle.row_set.specs.Parts.{IsAdmitted, plan_of_values}
use Rattle.row_relax.specs.Settle.{only_point}

-- the plan that does least: it starts nothing where the domain of a slot holds 0, and else the least batch there
abbrev pub least_plan : Plant → Program → List Start
least_plan plant part = plan_of_values plant (only_point part.root)

-- how many boxes a search needs at most: twice the points, less one
abbrev pub whole_count : Program → ℕ
whole_count part = 2 * points_of part.root - 1

-- the outcome of planning among the plans that a part of the plant's choices admits
abbrev pub IsPartOutcome : Plant → Program → ℕ → Outcome → Type 0
IsPartOutcome plant part budget outcome = IsOutcomeOf plant (IsAdmitted plant part) (least_plan plant part) (whole_count part) budget outcome
