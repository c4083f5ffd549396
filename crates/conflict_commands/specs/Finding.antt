-- The answer of `conflict`: its text, its status, and when it is right.
use Rattle.std.specs.Prelude.{◌≡◌, ℕ, Bool, true, false, if◌then◌else◌, nat_lt, List, ◌++◌, All, length, count_by, codes}
use Rattle.std.specs.Fmt.{signed_decimal}
use Rattle.stn_model.specs.declared.plant.Plant.{Plant}
use Rattle.plan_text.specs.PlanLines.{plan_lines, IsNamed}
use Rattle.order_text.specs.declared.mark.Mark.{Mark}
use Rattle.order_text.specs.declared.mark.Mark.TheVariants as mark
use Rattle.order_text.specs.ConflictText.{conflict_text}
use Rattle.order_conflict.specs.declared.answer.ConflictAnswer.{ConflictAnswer}
use Rattle.order_conflict.specs.declared.answer.ConflictAnswer.TheVariants.{Planned, Unsettled, Among, Unproved}
use Rattle.order_conflict.specs.Conflict.{IsConflict}

-- the step without the delivery spent its budget
abbrev pub is_open_mark : Mark → Bool
is_open_mark mark.Out = false
is_open_mark mark.Needed = false
is_open_mark mark.Open = true

-- some delivery is open
abbrev pub has_open : List Mark → Bool
has_open marks = nat_lt 0 (count_by is_open_mark marks)

-- the text of an answer: a plan with its profit, that the plant is open, or the deliveries that are left
unfoldable pub answer_text : Plant → ConflictAnswer → List ℕ
answer_text plant (Planned earned plan) = codes "# feasible " ++ (signed_decimal earned ++ (codes "\n" ++ plan_lines plant plan))
answer_text plant Unsettled = codes "# open\n"
answer_text plant (Among marks) = conflict_text plant marks.items
answer_text plant (Unproved marks) = codes "# open\n"

-- the exit status of an answer: 6 where something is open
abbrev pub answer_status : ConflictAnswer → ℕ
answer_status (Planned earned plan) = 0
answer_status Unsettled = 6
answer_status (Among marks) = if has_open marks.items then 6 else 0
answer_status (Unproved marks) = 6

-- there is a mark on each delivery
abbrev pub HasMarks : Plant → List Mark → Type 0
HasMarks plant marks = length marks ≡ length plant.deliveries

-- the answer's plan names units and tasks of the plant, and there is a mark on each delivery
abbrev pub IsPrintable : Plant → ConflictAnswer → Type 0
IsPrintable plant (Planned earned plan) = All (IsNamed plant) plan
IsPrintable plant Unsettled = Unit {0}
IsPrintable plant (Among marks) = HasMarks plant marks.items
IsPrintable plant (Unproved marks) = Unit {0}

-- The answer of `conflict`: a right one, with its status and its text.
pub record Found (budget : ℕ) (plant : Plant) (status : ℕ) (text : List ℕ) : Type 0 where
  pub said : ConflictAnswer
  pub right : IsConflict plant budget said
  pub status_is : status ≡ answer_status said
  pub text_is : text ≡ answer_text plant said
