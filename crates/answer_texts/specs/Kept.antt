-- Answers over the starts that are kept of a plan.
use Rattle.std.specs.Prelude.{◌≡◌, ◌⊎◌, ℕ, List}
use Rattle.stn_model.specs.declared.plant.Plant.{Plant}
use Rattle.stn_model.specs.declared.start.Start.{Start}
use Rattle.stn_model.specs.declared.violation.Violation.{Violation}
use Rattle.row_kit.specs.declared.program.Program.{Program}
use Rattle.frozen_plan.specs.Keeping.{CannotStand, IsKeptPart}
use Rattle.answer_texts.specs.Simulation.{violation_text}

-- the reply on kept starts that don't stand together, so that no feasible plan keeps them: what they break first
pub record CannotKeep (plant : Plant) (period : ℕ) (kept : List Start) (status : ℕ) (text : List ℕ) : Type 0 where
  pub violation : Violation
  pub cannot : CannotStand plant period kept violation
  pub status_is : status ≡ 1
  pub text_is : text ≡ violation_text plant violation

-- The answer over the starts that are kept of a plan: where they stand together, that over the program of the feasible plans
-- that keep them; else what they break first, and then no file has changed.
abbrev pub OnKept : Plant → ℕ → List Start → Type 0 → (Program → ℕ → List ℕ → Type 0) → ℕ → List ℕ → Type 0
OnKept plant period kept Unchanged Answers status text =
    (CannotKeep plant period kept status text × Unchanged) ⊎ ((part : Program) × (IsKeptPart plant period kept part × Answers part status text))
