-- That the lines of a plan are a text which says the plan again.
use Rattle.std.specs.Prelude.{◌≡◌, ◌≢◌, ℕ, ◌<◌, ◌≤◌, Ok, List, [], ◌∷◌, ◌++◌, length, flat_map, All}
use Rattle.stn_model.specs.declared.plant.Plant.{Plant}
use Rattle.stn_model.specs.declared.start.Start.{Start}
use Rattle.stn_model.specs.Sound.{Sound}
use Rattle.plan_text.specs.Published.{most_bytes, most_lines, number_limit}
use Rattle.plan_text.specs.PlanLines.{IsNamed, plan_lines}
use Rattle.plan_text.specs.PlanText.{plan_of_text}

-- a remark has no line feed (10)
abbrev pub IsRemark : List ℕ → Type 0
IsRemark remark = All (λ byte. byte ≢ 10) remark

-- the comments that the remarks make: each begins with '#' (35) and ends with a line feed
abbrev pub comment_lines : List (List ℕ) → List ℕ
comment_lines remarks = flat_map (λ remark. (35 ∷ remark) ++ (10 ∷ [])) remarks

-- the unit and the task of the start are in the plant, and its numbers have at most nine digits
pub record IsWritable (plant : Plant) (start : Start) : Type 0 where
  pub named : IsNamed plant start
  pub period : start.period < number_limit
  pub quanta : start.quanta < number_limit

-- The lines of the plan are a text that says the plan: for a sound plant, and at most as many starts in it as a text may have
-- whose numbers have at most nine digits.
unfoldable pub SaysAgain : Plant → List Start → Type 0
SaysAgain plant plan = Sound plant → length plan ≤ most_lines plant → All (IsWritable plant) plan → plan_of_text plant (plan_lines plant plan) ≡ Ok plan

-- So they are after comments, where the text is not too long.
unfoldable pub ReadsBack : Plant → List Start → Type 0
ReadsBack plant plan =
    Sound plant → length plan ≤ most_lines plant → All (IsWritable plant) plan → (remarks : List (List ℕ)) → All IsRemark remarks
    → length (comment_lines remarks ++ plan_lines plant plan) ≤ most_bytes plant → plan_of_text plant (comment_lines remarks ++ plan_lines plant plan) ≡ Ok plan
