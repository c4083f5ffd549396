-- What a search that ended says of a plant.
use Rattle.std.specs.Prelude.{◌≡◌, ℕ, ℤ, pos, if◌then◌else◌, List, Option, None, Some, MatchOption}
use Rattle.stn_model.specs.declared.plant.Plant.{Plant}
use Rattle.stn_model.specs.declared.start.Start.{Start}
use Rattle.stn_model.specs.declared.answer.Answer.TheVariants as answer
use Rattle.time_grid.specs.PlanPoint.{IsPlanOf}
use Rattle.row_kit.specs.declared.found.Found.{Found}
use Rattle.proof_tree.specs.declared.capped.Capped.{Capped}
use Rattle.proof_tree.specs.declared.capped.Capped.TheVariants.{AtMost, NoPoint, Bad}
use Rattle.branch_tree.specs.declared.ended.Ended.{Ended}
use Rattle.proof_log.specs.declared.claim.Claim.TheVariants as claim
use Rattle.plan_told.specs.declared.telling.Told.{Told}

-- the number of a cap, where it is one
abbrev pub number_of : Capped → Option ℤ
number_of (AtMost cap) = Some cap
number_of NoPoint = None
number_of Bad = None

-- the cap of a search, where a box was left open
abbrev pub open_cap : Ended → Option ℤ
open_cap ended = if ended.left_open then number_of ended.cap else None

-- what is told where no point was found: no plan is there, or with a box left open a cap
abbrev pub told_bare : Option ℤ → ℕ → Told
told_bare None spent = record { outcome = record { answer = answer.Infeasible; boxes = spent }; claim = claim.Infeasible }
told_bare (Some cap) spent = record { outcome = record { answer = answer.BudgetSpent None (pos 0) cap; boxes = spent }; claim = claim.Below cap }

-- what is told of a plan of the best found point: it is a best one, or with a box left open no plan is above the cap
abbrev pub told_plan : List Start → Found → Option ℤ → ℕ → Told
told_plan plan found None spent =
    record { outcome = record { answer = answer.Optimal plan found.value; boxes = spent }; claim = claim.Optimal found.value found.point }
told_plan plan found (Some cap) spent =
    record { outcome = record { answer = answer.BudgetSpent (Some plan) found.value cap; boxes = spent }; claim = claim.Between found.value cap found.point }

-- what is told of a plant is what its search ended with, with the plan of the best found point
abbrev pub IsTold : Plant → Ended → Told → Type 0
IsTold plant ended told =
    MatchOption ended.best (told ≡ told_bare (open_cap ended) ended.spent)
    (λ found. (plan : List Start) × (IsPlanOf plant found.point plan × (told ≡ told_plan plan found (open_cap ended) ended.spent)))
