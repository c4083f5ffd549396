-- One horizon after another.
use Rattle.std.proofs.Common.{◌≡◌, ℕ, ◌+◌, List, [], None, Some, Option, refl, sym, subst}
use Rattle.stn_model.specs.declared.plant.Plant.{Plant}
use Rattle.stn_model.specs.declared.answer.Answer.{Answer}
use Rattle.stn_model.specs.declared.answer.Answer.TheVariants as answer
use Rattle.stn_model.specs.declared.answer.Outcome.{Outcome}
use Rattle.stn_model.specs.Answers.{IsAnswerOf}
use Rattle.stn_model.specs.Feasible.{Feasible}
use Rattle.stn_model.specs.Points.{boxes}
use Rattle.stn_model.specs.Sound.{Within}
use Rattle.least_horizon.specs.declared.answer.LeastAnswer.{LeastAnswer}
use Rattle.least_horizon.specs.declared.answer.LeastAnswer.TheVariants.{At, Nowhere, Open}
use Rattle.shorter_plant.specs.PlantAt.{plant_at}
use Rattle.least_horizon.specs.Least.{NoneBelow, IsRight, AreInfeasible, IsHorizonSettled, IsSolved, IsLast, IsLeast, settled_within, reached, untried}
use Rattle.least_horizon.proofs.Judged.{up_to}

-- where shorter horizons were found to have no feasible plan, they have none
pub none_below : (plant : Plant) (budget : ℕ) (logs : ℕ → Option (List ℕ)) (horizon : ℕ) → AreInfeasible plant budget logs horizon → NoneBelow plant horizon
none_below plant budget logs horizon before g some below =
    let it = before g some below in
    let short = plant_at plant g in
    subst (λ (a : Answer). IsAnswerOf short (Feasible short) [] (boxes short) budget it.0.boxes a) it.1.0 it.1.1.right.answer

-- what an answer settles is right, where it is right itself
right_if : (plant : Plant) (budget horizon used : ℕ) (said : Answer) (found : LeastAnswer) → Within 1 plant.periods horizon → NoneBelow plant horizon
    → IsAnswerOf (plant_at plant horizon) (Feasible (plant_at plant horizon)) [] (boxes (plant_at plant horizon)) budget used said → Some found ≡ settled_within horizon said
    → IsRight plant found × ((reached plant found ≡ horizon) × (untried plant found ≡ horizon + 1))
right_if plant budget horizon used (answer.Optimal plan earned) found within none right is =
    let e : At horizon earned plan ≡ found = cc in
    subst (λ (f : LeastAnswer). IsRight plant f × ((reached plant f ≡ horizon) × (untried plant f ≡ horizon + 1))) e ((within, (none, (right.0.admitted, right.1))), (refl, refl))
right_if plant budget horizon used answer.Infeasible found within none right is = absurd cc
right_if plant budget horizon used (answer.BudgetSpent (Some plan) earned cap) found within none right is =
    let e : At horizon earned plan ≡ found = cc in
    subst (λ (f : LeastAnswer). IsRight plant f × ((reached plant f ≡ horizon) × (untried plant f ≡ horizon + 1))) e ((within, (none, (right.found.admitted, right.found.profit_is))), (refl, refl))
right_if plant budget horizon used (answer.BudgetSpent None earned cap) found within none right is =
    let e : Open horizon ≡ found = cc in
    subst (λ (f : LeastAnswer). IsRight plant f × ((reached plant f ≡ horizon) × (untried plant f ≡ horizon + 1))) e ((within, none), (refl, refl))

last_is : (plant : Plant) (budget : ℕ) (logs : ℕ → Option (List ℕ)) (horizon : ℕ) (found : LeastAnswer) → reached plant found ≡ horizon → IsHorizonSettled plant budget logs horizon (Some found) → IsLast plant budget logs found
last_is plant budget logs horizon (At own earned plan) same is = subst (λ n. IsHorizonSettled plant budget logs n (Some (At own earned plan))) (sym same) is
last_is plant budget logs horizon Nowhere same is = tt
last_is plant budget logs horizon (Open own) same is = subst (λ n. IsHorizonSettled plant budget logs n (Some (Open own))) (sym same) is

-- what is settled within a horizon is the answer, where shorter ones were found to have no feasible plan
pub found_least : (plant : Plant) (budget : ℕ) (logs : ℕ → Option (List ℕ)) (horizon : ℕ) (found : LeastAnswer) → Within 1 plant.periods horizon
    → AreInfeasible plant budget logs horizon → IsHorizonSettled plant budget logs horizon (Some found) → IsLeast plant budget logs found
found_least plant budget logs horizon found within before is =
    let known = right_if plant budget horizon is.outcome.boxes is.outcome.answer found within (none_below plant budget logs horizon before) is.solved.right.answer is.is in
    record {
      right = known.0;
      before = subst (λ n. AreInfeasible plant budget logs n) (sym known.1.0) before;
      last = last_is plant budget logs horizon found known.1.0 is;
    }

-- and the next horizon is the first that was not tried
pub found_untried : (plant : Plant) (budget : ℕ) (logs : ℕ → Option (List ℕ)) (horizon : ℕ) (found : LeastAnswer) → Within 1 plant.periods horizon
    → AreInfeasible plant budget logs horizon → IsHorizonSettled plant budget logs horizon (Some found) → untried plant found ≡ horizon + 1
found_untried plant budget logs horizon found within before is =
    (right_if plant budget horizon is.outcome.boxes is.outcome.answer found within (none_below plant budget logs horizon before) is.solved.right.answer is.is).1.1

-- where all horizons were found to have no feasible plan, the answer is that none has
pub found_nowhere : (plant : Plant) (budget : ℕ) (logs : ℕ → Option (List ℕ)) → AreInfeasible plant budget logs (plant.periods + 1) → IsLeast plant budget logs Nowhere
found_nowhere plant budget logs before = record { right = none_below plant budget logs (plant.periods + 1) before; before = before; last = tt }

infeasible_if : (horizon : ℕ) (said : Answer) → None ≡ settled_within horizon said → said ≡ answer.Infeasible
infeasible_if horizon (answer.Optimal plan earned) is = absurd cc
infeasible_if horizon answer.Infeasible is = refl
infeasible_if horizon (answer.BudgetSpent (Some plan) earned cap) is = absurd cc
infeasible_if horizon (answer.BudgetSpent None earned cap) is = absurd cc

-- a horizon within which nothing is settled is one more without a feasible plan
pub one_more : (plant : Plant) (budget : ℕ) (logs : ℕ → Option (List ℕ)) (horizon : ℕ) → AreInfeasible plant budget logs horizon → IsHorizonSettled plant budget logs horizon None → AreInfeasible plant budget logs (horizon + 1)
one_more plant budget logs horizon before is =
    up_to (λ g. (outcome : Outcome) × ((outcome.answer ≡ answer.Infeasible) × IsSolved plant budget logs g outcome)) horizon before
    (is.outcome, (infeasible_if horizon is.outcome.answer is.is, is.solved))
