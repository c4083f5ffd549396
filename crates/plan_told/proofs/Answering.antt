-- What is told of an end is right: the outcome, its proof, and its claim.
use Rattle.std.proofs.Common.{◌≡◌, ℕ, ◌^◌, ◌<◌, ◌≤◌, Bool, true, false, List, Option, Some, None, ℤ, pos, ◌≤ℤ◌, ◌<ℤ◌, refl, sym, ap, ◌∙◌, subst, arith}
use Rattle.std.specs.Prelude.{IfSome, ⊤}
use Rattle.std.specs.Option.{IsSomeAnd}
use Rattle.std.proofs.lemmas.Int.{ints}
use Rattle.stn_model.specs.declared.plant.Plant.{Plant}
use Rattle.stn_model.specs.declared.start.Start.{Start}
use Rattle.stn_model.specs.declared.answer.Answer.{Answer}
use Rattle.stn_model.specs.declared.answer.Answer.TheVariants as answer
use Rattle.stn_model.specs.declared.answer.Outcome.{Outcome}
use Rattle.stn_model.specs.Sound.{Sound}
use Rattle.stn_model.specs.Best.{BestOf}
use Rattle.stn_model.specs.Profit.{profit}
use Rattle.stn_model.specs.Answers.{IsAnswerOf, IsSpent}
use Rattle.time_grid.specs.PlanPoint.{IsPlanOf, plan_point}
use Rattle.row_kit.specs.declared.found.Found.{Found}
use Rattle.row_kit.specs.declared.program.Program.{Program}
use Rattle.row_kit.specs.Point.{IsLawful, worth_of}
use Rattle.dual_bound.specs.Cap.{IsSmallCap}
use Rattle.row_set.proofs.PartPoints.{admitted-lawful, admitted-worth}
use Rattle.row_set.specs.Parts.{IsAdmitted, IsPartOf}
use Rattle.proof_tree.specs.declared.capped.Capped.{Capped}
use Rattle.proof_tree.specs.declared.capped.Capped.TheVariants.{AtMost, NoPoint, Bad}
use Rattle.row_relax.specs.Settle.{only_point}
use Rattle.branch_tree.specs.declared.ended.Ended.{Ended}
use Rattle.branch_tree.specs.Justified.{IsGroup}
use Rattle.proof_log.specs.declared.claim.Claim.TheVariants as claim
use Rattle.plan_images.specs.Caps.{Caps}
use Rattle.valid_log.specs.Meaning.{IsSoundClaim}
use Rattle.plan_told.specs.Claims.{IfPoint}
use Rattle.plan_told.specs.Outcomes.{IsPartOutcome, least_plan, whole_count}
use Rattle.plan_told.specs.Proofs.{IfSpent, IsCapOf, claim_of}
use Rattle.plan_told.specs.Telling.{IsTold, told_bare, told_plan}
use Rattle.plan_told.specs.declared.telling.Told.{Told}
use Rattle.plan_told.proofs.PartPlans.{lawful-plan, least-point}
use Rattle.plan_told.proofs.SmallClaim.{IsSmallClaim}

-- nothing is left open: the best point is worth what the cap is, or more, or there is no point and none was found
abbrev pub IsShut : Capped → Option Found → Type 0
IsShut (AtMost n) (Some best) = n ≤ℤ best.value
IsShut NoPoint None = ⊤
IsShut _ _ = ⊥

-- a box is left open: the cap is a number, above the worth of the best point
abbrev pub IsOver : Capped → Option Found → Type 0
IsOver (AtMost n) (Some best) = best.value <ℤ n
IsOver (AtMost n) None = ⊤
IsOver _ _ = ⊥

-- What a search came to as of a part, whatever program it was of: its cap allows what each plan of the part earns, and its best point is
-- one of the part. `Open` says that its proof has an open box.
pub record IsEnd (plant : Plant) (part : Program) (budget : ℕ) (Open : Type 0) (ended : Ended) : Type 0 where
  pub group : IfSome ended.best (IsGroup part)
  pub least : IsLawful part (only_point part.root) → IsSomeAnd ended.best (λ best. worth_of part (only_point part.root) ≤ℤ best.value)
  pub caps : Caps (IsAdmitted plant part) (profit plant) ended.cap
  pub short : IsSmallCap (10 ^ 30) ended.cap
  pub shut : ended.left_open ≡ false → IsShut ended.cap ended.best
  pub over : ended.left_open ≡ true → (IsOver ended.cap ended.best × Open) × ((ended.spent ≡ budget) × (budget < whole_count part))
  pub some : 0 < ended.spent
  pub within : ended.spent ≤ budget
  pub most : ended.spent ≤ whole_count part

-- a claim that the cap bears out makes a proof of its answer
abbrev pub Makes : Plant → Program → Type 0 → (Outcome → Type 0) → Ended → Type 0
Makes plant part Open Proof ended = (said : Answer) → IsSoundClaim part ended.cap (claim_of plant said) → IsSmallClaim (claim_of plant said) → IsCapOf said ended.cap → IfSpent said Open
    → Proof (record { answer = said; boxes = ended.spent })

-- an outcome that is told is right, has a proof, and the claim that is told is that of its answer, whose point is lawful
pub record IsToldWith (plant : Plant) (part : Program) (budget : ℕ) (Proof : Outcome → Type 0) (told : Told) : Type 0 where
  pub outcome : IsPartOutcome plant part budget told.outcome
  pub proof : Proof told.outcome
  pub claim : told.claim ≡ claim_of plant told.outcome.answer
  pub point : IfPoint told.claim (IsLawful part)

abbrev ended_at : Option Found → Capped → ℕ → Bool → Ended
ended_at best cap spent left_open = record { best = best; cap = cap; spent = spent; left_open = left_open }

module _ (plant : Plant) (part : Program) (sound : Sound plant) (is : IsPartOf plant part) (budget : ℕ) (Open : Type 0) (Proof : Outcome → Type 0) where
  -- where the plan that does least is admitted, the least point is lawful
  least_lawful : IsAdmitted plant part (least_plan plant part) → IsLawful part (only_point part.root)
  least_lawful admitted = subst (IsLawful part) (least-point plant part sound is) (admitted-lawful plant part (least_plan plant part) is admitted)

  -- and it earns the worth of that point
  least_earns : IsAdmitted plant part (least_plan plant part) → profit plant (least_plan plant part) ≡ worth_of part (only_point part.root)
  least_earns admitted = sym (admitted-worth plant part (least_plan plant part) is admitted) ∙ ap (worth_of part) (least-point plant part sound is)

  -- the number of boxes, and the proof, of an answer that is right
  with_answer : (ended : Ended) (said : Answer) → IsEnd plant part budget Open ended → Makes plant part Open Proof ended
      → IsAnswerOf plant (IsAdmitted plant part) (least_plan plant part) (whole_count part) budget ended.spent said
      → IsSoundClaim part ended.cap (claim_of plant said) → IsSmallClaim (claim_of plant said) → IsCapOf said ended.cap → IfSpent said Open
      → IsPartOutcome plant part budget (record { answer = said; boxes = ended.spent }) × Proof (record { answer = said; boxes = ended.spent })
  with_answer ended said end makes right borne small most left =
      (record { answer = right; some = end.some; within = end.within; most = end.most }, makes said borne small most left)

  -- nothing is left open, and a point was found
  told_best : (found : Found) (n : ℤ) (spent : ℕ) → IsEnd plant part budget Open (ended_at (Some found) (AtMost n) spent false) → Makes plant part Open Proof (ended_at (Some found) (AtMost n) spent false)
      → (plan : List Start) → IsPlanOf plant found.point plan → IsToldWith plant part budget Proof (told_plan plan found None spent)
  told_best found n spent end makes plan is_plan =
      let group : IsGroup part found = end.group in
      let own = lawful-plan plant part sound is found.point plan group.lawful is_plan in
      let earned : profit plant plan ≡ found.value = own.earns ∙ sym group.worth in
      let lawful : IsLawful part (plan_point plant plan) = subst (IsLawful part) (sym own.has) group.lawful in
      let worth : worth_of part (plan_point plant plan) ≡ found.value = ap (worth_of part) own.has ∙ sym group.worth in
      let low : n ≤ℤ found.value = end.shut refl in
      let closed : found.value <ℤ n → ⊥ = λ h. omega (arith, ints, low, h) in
      let best : BestOf plant (IsAdmitted plant part) plan = record {
        admitted = own.admitted;
        best = λ other admitted. let most : profit plant other ≤ℤ n = end.caps other admitted in omega (arith, ints, most, low, earned);
      } in
      let both = with_answer (ended_at (Some found) (AtMost n) spent false) (answer.Optimal plan found.value) end makes (best, earned) ((lawful, worth), closed) tt tt tt in
      record { outcome = both.0; proof = both.1; claim = ap (λ point. claim.Optimal found.value point) (sym own.has); point = group.lawful }

  -- nothing is left open, and no point was found
  told_none : (spent : ℕ) → IsEnd plant part budget Open (ended_at None NoPoint spent false) → Makes plant part Open Proof (ended_at None NoPoint spent false)
      → IsToldWith plant part budget Proof (told_bare None spent)
  told_none spent end makes =
      let both = with_answer (ended_at None NoPoint spent false) answer.Infeasible end makes end.caps (λ h. h) tt tt tt in
      record { outcome = both.0; proof = both.1; claim = refl; point = tt }

  -- a box is left open, and a point was found
  told_between : (found : Found) (n : ℤ) (spent : ℕ) → IsEnd plant part budget Open (ended_at (Some found) (AtMost n) spent true) → Makes plant part Open Proof (ended_at (Some found) (AtMost n) spent true)
      → (plan : List Start) → IsPlanOf plant found.point plan → IsToldWith plant part budget Proof (told_plan plan found (Some n) spent)
  told_between found n spent end makes plan is_plan =
      let group : IsGroup part found = end.group in
      let own = lawful-plan plant part sound is found.point plan group.lawful is_plan in
      let earned : profit plant plan ≡ found.value = own.earns ∙ sym group.worth in
      let lawful : IsLawful part (plan_point plant plan) = subst (IsLawful part) (sym own.has) group.lawful in
      let worth : worth_of part (plan_point plant plan) ≡ found.value = ap (worth_of part) own.has ∙ sym group.worth in
      let left = end.over refl in
      let spent_right : IsSpent plant (IsAdmitted plant part) (least_plan plant part) (whole_count part) budget spent (Some plan) found.value n = record {
        exactly = left.1.0;
        fewer = left.1.1;
        found = record { admitted = own.admitted; profit_is = earned; below = left.0.0 };
        floor = λ admitted. subst (λ z. z ≤ℤ found.value) (sym (least_earns admitted)) (end.least (least_lawful admitted));
        capped = end.caps;
      } in
      let not_above : n <ℤ n → ⊥ = λ h. omega (arith, ints, h) in
      let both = with_answer (ended_at (Some found) (AtMost n) spent true) (answer.BudgetSpent (Some plan) found.value n) end makes spent_right ((lawful, worth), not_above) end.short refl left.0.1 in
      record { outcome = both.0; proof = both.1; claim = ap (λ point. claim.Between found.value n point) (sym own.has); point = group.lawful }

  -- a box is left open, and no point was found
  told_below : (n : ℤ) (spent : ℕ) → IsEnd plant part budget Open (ended_at None (AtMost n) spent true) → Makes plant part Open Proof (ended_at None (AtMost n) spent true)
      → IsToldWith plant part budget Proof (told_bare (Some n) spent)
  told_below n spent end makes =
      let left = end.over refl in
      let not_least : IsAdmitted plant part (least_plan plant part) → ⊥ = λ admitted. end.least (least_lawful admitted) in
      let spent_right : IsSpent plant (IsAdmitted plant part) (least_plan plant part) (whole_count part) budget spent None (pos 0) n = record {
        exactly = left.1.0;
        fewer = left.1.1;
        found = (refl, not_least);
        floor = λ admitted. absurd (not_least admitted);
        capped = end.caps;
      } in
      let not_above : n <ℤ n → ⊥ = λ h. omega (arith, ints, h) in
      let both = with_answer (ended_at None (AtMost n) spent true) (answer.BudgetSpent None (pos 0) n) end makes spent_right not_above end.short refl left.0.1 in
      record { outcome = both.0; proof = both.1; claim = refl; point = tt }

  -- what is told of an end is right, case by case
  told_at : (best : Option Found) (cap : Capped) (spent : ℕ) (left_open : Bool) → IsEnd plant part budget Open (ended_at best cap spent left_open) → Makes plant part Open Proof (ended_at best cap spent left_open)
      → (told : Told) → IsTold plant (ended_at best cap spent left_open) told → IsToldWith plant part budget Proof told
  told_at (Some found) (AtMost n) spent false end makes told (plan, (is_plan, same)) = subst (IsToldWith plant part budget Proof) (sym same) (told_best found n spent end makes plan is_plan)
  told_at (Some found) NoPoint spent false end makes told says = absurd (end.shut refl)
  told_at (Some found) Bad spent false end makes told says = absurd (end.shut refl)
  told_at None (AtMost n) spent false end makes told says = absurd (end.shut refl)
  told_at None NoPoint spent false end makes told same = subst (IsToldWith plant part budget Proof) (sym same) (told_none spent end makes)
  told_at None Bad spent false end makes told says = absurd (end.shut refl)
  told_at (Some found) (AtMost n) spent true end makes told (plan, (is_plan, same)) = subst (IsToldWith plant part budget Proof) (sym same) (told_between found n spent end makes plan is_plan)
  told_at (Some found) NoPoint spent true end makes told says = absurd (end.over refl).0.0
  told_at (Some found) Bad spent true end makes told says = absurd (end.over refl).0.0
  told_at None (AtMost n) spent true end makes told same = subst (IsToldWith plant part budget Proof) (sym same) (told_below n spent end makes)
  told_at None NoPoint spent true end makes told says = absurd (end.over refl).0.0
  told_at None Bad spent true end makes told says = absurd (end.over refl).0.0

  -- what is told of an end is right
  pub told-with : (ended : Ended) → IsEnd plant part budget Open ended → Makes plant part Open Proof ended → (told : Told) → IsTold plant ended told → IsToldWith plant part budget Proof told
  told-with ended end makes told says = told_at ended.best ended.cap ended.spent ended.left_open end makes told says
