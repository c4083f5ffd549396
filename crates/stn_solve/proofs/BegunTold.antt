-- What is told of a search that began with a point earns as much.
use Rattle.std.proofs.Common.{◌≡◌, ℕ, ℤ, List, Option, Some, None, sym, ap, ◌∙◌, subst, arith}
use Rattle.std.specs.Prelude.{◌≤ℤ◌, MatchOption, Result, Ok, Err, IfOk}
use Rattle.std.specs.Option.{IsSomeAnd}
use Rattle.std.proofs.lemmas.Int.{ints}
use Rattle.stn_model.specs.declared.plant.Plant.{Plant}
use Rattle.stn_model.specs.declared.start.Start.{Start}
use Rattle.stn_model.specs.declared.answer.Answer.{Answer}
use Rattle.stn_model.specs.declared.answer.Outcome.{Outcome}
use Rattle.stn_model.specs.Feasible.{Feasible}
use Rattle.stn_model.specs.Profit.{profit}
use Rattle.stn_model.specs.Sound.{Sound}
use Rattle.time_grid.specs.PlanPoint.{HasPoint, IsPlanOf, plan_point}
use Rattle.time_grid.proofs.OnePlan.{has_point-feasible}
use Rattle.row_kit.specs.declared.domain.Domain.{Domain}
use Rattle.row_kit.specs.declared.found.Found.{Found}
use Rattle.row_kit.specs.declared.program.Program.{Program}
use Rattle.row_kit.specs.Point.{IsLawful, worth_of}
use Rattle.row_set.specs.Parts.{IsAdmitted, IsPartOf}
use Rattle.row_set.specs.PlantProgram.{IsProgramOf}
use Rattle.row_set.proofs.PartPoints.{admitted-lawful, admitted-worth}
use Rattle.row_relax.specs.declared.rows.Rows.{Rows}
use Rattle.row_relax.specs.Choices.{choices_of}
use Rattle.row_relax.proofs.Choosing.{plain-rows}
use Rattle.sum_slots.specs.Larger.{completed}
use Rattle.sum_slots.specs.Shown.{AreRanges}
use Rattle.branch_tree.specs.declared.ended.Ended.{Ended}
use Rattle.branch_tree.specs.Searched.{IsWorth}
use Rattle.branch_tree.specs.Compared.{better_of}
use Rattle.branch_tree.proofs.Best.{better-first}
use Rattle.plan_told.specs.Claims.{HaveBytes}
use Rattle.plan_told.specs.Given.{cut_found, given_best, given_end}
use Rattle.plan_told.specs.Telling.{IsTold, open_cap, told_bare, told_plan}
use Rattle.plan_told.specs.declared.telling.Told.{Told}
use Rattle.plan_told.proofs.Completing.{claim-bytes}
use Rattle.plan_told.proofs.ValidHeads.{head-same}
use Rattle.proof_log.specs.declared.claim.Claim.TheVariants as claim
use Rattle.std.specs.Prelude.{pos}
use Rattle.head_choice.specs.declared.heading.Headed.{Headed}
use Rattle.head_choice.specs.Heading.{IsHeaded}
use Rattle.stn_solve.specs.Begun.{EarnsAtLeast, EarnsPoint}

-- a plan of a found point that is worth as much
earns-plan : (least : ℤ) (plan : List Start) (found : Found) (cap : Option ℤ) (spent : ℕ) → least ≤ℤ found.value → EarnsAtLeast least (told_plan plan found cap spent).outcome.answer
earns-plan least plan found None spent low = low
earns-plan least plan found (Some cap) spent low = low

-- what is told of a search whose best point is worth as much
pub told-earns : (plant : Plant) (program : Program) (point : List ℕ) (ended : Ended) (told : Told) → IsWorth program point ended.best → IsTold plant ended told → EarnsPoint program point told.outcome.answer
told-earns plant program point ended told worth says lawful = at ended.best (worth lawful) says
  where
    least : ℤ
    least = worth_of program point

    at : (best : Option Found) → IsSomeAnd best (λ f. least ≤ℤ f.value)
        → MatchOption best (told ≡ told_bare (open_cap ended) ended.spent) (λ found. (plan : List Start) × (IsPlanOf plant found.point plan × (told ≡ told_plan plan found (open_cap ended) ended.spent)))
        → EarnsAtLeast least told.outcome.answer
    at None low is = absurd low
    at (Some found) low is =
        subst (λ (t : Told). EarnsAtLeast least t.outcome.answer) (sym is.1.1) (earns-plan least is.0 found (open_cap ended) ended.spent low)

-- the same of an outcome that may not have been told
pub told-if : {E : Type 0} (plant : Plant) (program : Program) (point : List ℕ) (ended : Ended) (r : Result Told E) → IsWorth program point ended.best → IfOk r (IsTold plant ended)
    → IfOk r (λ told. EarnsPoint program point told.outcome.answer)
told-if plant program point ended (Ok told) worth says = told-earns plant program point ended told worth says
told-if plant program point ended (Err e) worth says = tt

-- where points are judged by the program of the rows, so is a worth
pub worth-plain : (rows : Rows) (point : List ℕ) (best : Option Found) → rows.choices ≡ None → IsWorth (choices_of rows) point best → IsWorth rows.program point best
worth-plain rows point best none worth = subst (λ (r : Rows). IsWorth (choices_of r) point best) (plain-rows rows none) worth

-- what is below a worth is below more
rises : (least value : ℤ) (best : Option Found) → least ≤ℤ value → IsSomeAnd best (λ b. value ≤ℤ b.value) → IsSomeAnd best (λ b. least ≤ℤ b.value)
rises least value None low more = more
rises least value (Some b) low more = omega (arith, ints, low, more)

-- the best point as of so many slots is worth as much as the best found one
given-worth : (least : ℤ) (slots : ℕ) (other best : Option Found) → IsSomeAnd best (λ f. least ≤ℤ f.value) → IsSomeAnd (given_best slots other best) (λ b. least ≤ℤ b.value)
given-worth least slots other None low = absurd low
given-worth least slots other (Some f) low = rises least f.value (better_of (Some (cut_found slots f)) other) low (better-first (Some (cut_found slots f)) other)

module _ (plant : Plant) (part : Program) (judged : List Domain) (headed : Headed) (ranges : AreRanges part judged) (with_head : IsHeaded plant part judged headed) where
  -- at a lawful point the sums have values that are bytes
  pub begun-bytes : (point : List ℕ) → IsLawful part point → HaveBytes headed.sums point
  begun-bytes point lawful = claim-bytes plant part headed.rows judged headed.sums with_head.units with_head.derivations ranges with_head.can (claim.Optimal (pos 0) point) lawful

  -- a search that began with the completed point has as of the part a best point that is worth as much as the point
  pub begun-given : (least : Option Found) (point whole : List ℕ) (ended own : Ended) → (IsLawful part point → whole ≡ completed headed.sums point) → IsWorth (choices_of headed.rows) whole ended.best
      → own ≡ given_end headed.given least ended → IsWorth part point own.best
  begun-given least point whole ended own same worth as_given lawful =
      let choices = choices_of headed.rows in
      let points = head-same plant part headed.rows judged headed.sums with_head.units with_head.derivations ranges with_head.can in
      let larger = points.there_is point lawful in
      let there : IsLawful choices whole = subst (IsLawful choices) (sym (same lawful)) larger.0 in
      let value : worth_of choices whole ≡ worth_of part point = ap (worth_of choices) (same lawful) ∙ larger.1 in
      let low : IsSomeAnd ended.best (λ f. worth_of part point ≤ℤ f.value) = subst (λ (z : ℤ). IsSomeAnd ended.best (λ f. z ≤ℤ f.value)) value (worth there) in
      subst (λ (o : Ended). IsSomeAnd o.best (λ b. worth_of part point ≤ℤ b.value)) (sym as_given) (given-worth (worth_of part point) headed.given least ended.best low)

-- ---- plans to begin with

-- an answer that earns what a plan's point is worth earns what the plan does
pub part-earns : (plant : Plant) (part : Program) (start : List Start) (point : List ℕ) (said : Answer) → Sound plant → IsPartOf plant part → (HasPoint plant start → point ≡ plan_point plant start) → EarnsPoint part point said
    → IsAdmitted plant part start → EarnsAtLeast (profit plant start) said
part-earns plant part start point said sound is made earns admitted =
    let same = made (has_point-feasible plant start sound admitted.feasible) in
    let there : IsLawful part point = subst (IsLawful part) (sym same) (admitted-lawful plant part start is admitted) in
    subst (λ (z : ℤ). EarnsAtLeast z said) (ap (worth_of part) same ∙ admitted-worth plant part start is admitted) (earns there)

-- the same of a feasible plan and the plant's whole program
pub begun-if : {E : Type 0} (plant : Plant) (program : Program) (start : List Start) (point : List ℕ) (r : Result Outcome E) → Sound plant → IsPartOf plant program → IsProgramOf plant program
    → (HasPoint plant start → point ≡ plan_point plant start) → IfOk r (λ outcome. EarnsPoint program point outcome.answer) → IfOk r (λ outcome. Feasible plant start → EarnsAtLeast (profit plant start) outcome.answer)
begun-if plant program start point (Ok outcome) sound is means made earns = λ feasible.
    let has = (means.feasible start).0 feasible in
    part-earns plant program start point outcome.answer sound is made earns (record { feasible = feasible; lies = has.1.lies })
begun-if plant program start point (Err e) sound is means made earns = tt
