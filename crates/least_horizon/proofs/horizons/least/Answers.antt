-- The first horizon that settles something is the answer; where none does, no plan is feasible within any.
use Rattle.std.proofs.Common.{◌≡◌, ℕ, ◌+◌, None, subst, arith}
use Rattle.least_horizon.specs.Least.{AreInfeasible, IsHorizonSettled}
use Rattle.least_horizon.proofs.Steps.{found_least, found_nowhere, one_more}
use Rattle.least_horizon.proofs.horizons.least.Goals as goal

pub returns-in-Some : goal.returns-in-Some
returns-in-Some g c = record {
  least = found_least c.args.plant.now c.args.budget (λ _. None) c.loop-horizon.horizon c.in-Some.answer (omega arith, omega arith) c.loop-horizon.invariant
      (subst (IsHorizonSettled c.args.plant.now c.args.budget (λ _. None) c.loop-horizon.horizon) c.in-Some.is c.in_ok-answer.ensures);
}

pub loop-horizon-preserved : goal.loop-horizon-preserved
loop-horizon-preserved g c =
    one_more c.args.plant.now c.args.budget (λ _. None) c.loop-horizon.horizon c.loop-horizon.invariant
    (subst (IsHorizonSettled c.args.plant.now c.args.budget (λ _. None) c.loop-horizon.horizon) c.in_default.is c.in_ok-answer.ensures)

pub returns : goal.returns
returns g c =
    let e : c.loop-horizon.horizon ≡ c.args.plant.now.periods + 1 = omega arith in
    record { least = found_nowhere c.args.plant.now c.args.budget (λ _. None) (subst (λ (n : ℕ). AreInfeasible c.args.plant.now c.args.budget (λ _. None) n) e c.loop-horizon.invariant) }
