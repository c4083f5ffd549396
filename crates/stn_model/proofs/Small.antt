-- How large the numbers of a sound plant are.
use Rattle.std.proofs.Common.{◌≡◌, ℕ, ℤ, ◌^◌, ◌<◌, ◌≤◌, List, length, get_or, inl, inr, arith, sym, subst, Option, Some}
use Rattle.std.proofs.lemmas.Bool.{cases_lt}
use Rattle.std.proofs.lemmas.List.{get_or_past}
use Rattle.std.specs.Prelude.{All, IfSome, unsigned_abs}
use Rattle.std.proofs.lemmas.List.Sums.{get_or-le-sum_by}
use Rattle.std.proofs.lemmas.Option.{IfSome_then}
use Rattle.stn_model.specs.declared.plant.Plant.{Plant}
use Rattle.stn_model.specs.declared.plant.Task.{Task}
use Rattle.stn_model.specs.declared.plant.Run.{Run}
use Rattle.stn_model.specs.Plant.{run_on, is_of, no_utility, rate_in, utility_at}
use Rattle.stn_model.specs.Sound.{Sound, SoundTask, SoundRun}
use Rattle.stn_model.proofs.Fitting.{found-All}

pub inputs_small : (plant : Plant) (task : Task) → SoundTask plant task → All (λ input. input.amount ≤ 2 ^ 20) task.inputs
inputs_small plant task sound k d h = omega (arith, get_or-le-sum_by (λ input. input.amount) task.inputs k d h, sound.taken, sound.quantum)

pub outputs_small : (plant : Plant) (task : Task) → SoundTask plant task → All (λ output. output.amount ≤ 2 ^ 20) task.outputs
outputs_small plant task sound k d h = omega (arith, get_or-le-sum_by (λ output. output.amount) task.outputs k d h, sound.given, sound.quantum)

-- what the run of a task on a unit costs
pub run_costs_small : (plant : Plant) → Sound plant → (task unit : ℕ) → IfSome (run_on plant task unit) (λ run. unsigned_abs run.cost ≤ 2 ^ 20)
unfolding run_on
run_costs_small plant sound task unit = IfSome_then (run_on plant task unit) (found-All (SoundRun plant) (is_of task unit) plant.runs sound.runs) (λ run h. omega (arith, h.0.cost))

pub run_cost_small : (plant : Plant) → Sound plant → (task unit : ℕ) (r : Option Run) (run : Run) → r ≡ run_on plant task unit → r ≡ Some run → unsigned_abs run.cost ≤ 2 ^ 20
run_cost_small plant sound task unit r run e is =
    let found : Some run ≡ run_on plant task unit = cc in
    subst (λ (o : Option Run). IfSome o (λ x. unsigned_abs x.cost ≤ 2 ^ 20)) (sym found) (run_costs_small plant sound task unit)

-- an item, or what stands in the place of one that is not there, keeps a bound that all items and this keep
within_or : (xs : List ℤ) (k : ℕ) (d : ℤ) (most : ℕ) → All (λ x. unsigned_abs x ≤ most) xs → unsigned_abs d ≤ most → unsigned_abs (get_or xs k d) ≤ most
within_or xs k d most each small =
    elim (cases_lt k (length xs)) [
      | inl there ↦ each k d there
      | inr past ↦ rw (get_or_past xs k d past) small
    ]

-- what a unit of a utility costs in a period
pub rate_small : (plant : Plant) → Sound plant → (utility period : ℕ) → utility < length plant.utilities → unsigned_abs (rate_in (utility_at plant utility) period) ≤ 1000000
unfolding rate_in
rate_small plant sound utility period there =
    let is = sound.utilities utility no_utility there in
    within_or (utility_at plant utility).rates period (utility_at plant utility).rate 1000000 is.each_rate is.rate
