-- The answer of `check-replan`, and when it is right.
use Rattle.std.specs.Prelude.{ℕ, List, Option}
use Rattle.stn_model.specs.Points.{depth_limit}
use Rattle.stn_model.specs.declared.plant.Plant.{Plant}
use Rattle.stn_model.specs.declared.start.Start.{Start}
use Rattle.row_kit.specs.declared.program.Program.{Program}
use Rattle.valid_log.specs.Verdict.{IfYes}
use Rattle.valid_log.specs.PlantLogs.{IsKeptVerdict}
use Rattle.valid_log.specs.Claims.{SaysOf}
use Rattle.frozen_plan.specs.Keeping.{Keeps}
use Rattle.answer_texts.specs.Checking.{Judged}
use Rattle.answer_texts.specs.Kept.{OnKept}

-- The answer of `check-replan` over such a program, over whose root a head of version 4 is judged, where at most as many splits may be open as the plant may need: after a yes what the claim says
-- holds of all feasible plans that keep the starts.
abbrev pub CheckedOver : Option (List ℕ) → Plant → ℕ → List Start → Program → ℕ → List ℕ → Type 0
CheckedOver log plant period kept part status text = Judged (IsKeptVerdict plant part (depth_limit plant)) (IfYes (SaysOf plant (Keeps plant period kept))) log status text

-- the answer of `check-replan`
abbrev pub ReplanChecked : Option (List ℕ) → Plant → ℕ → List Start → Type 0 → ℕ → List ℕ → Type 0
ReplanChecked log plant period kept Unchanged status text = OnKept plant period kept Unchanged (CheckedOver log plant period kept) status text
