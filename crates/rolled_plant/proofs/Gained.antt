-- What arrives from the period on is what a state gains.
use Rattle.std.proofs.Common.{◌≡◌, ℕ, zero, suc, ◌<◌, ◌≤◌, List, get_or, sum_by, ap, arith}
use Rattle.std.specs.Prelude.{pos, ◌-ℤ◌, All}
use Rattle.std.proofs.lemmas.Int.{ints}
use Rattle.stn_model.specs.declared.plant.Plant.{Plant}
use Rattle.stn_model.specs.declared.start.Start.{Start}
use Rattle.stn_model.specs.Stock.{taken, stock, outflow}
use Rattle.rolled_plant.specs.Receipts.{arriving_at}
use Rattle.rolled_plant.specs.Gained.{gained_by, gained_before}
use Rattle.rolled_plant.proofs.Basics.{sum_by-agree}
use Rattle.rolled_plant.proofs.Given.{taken_past}
use Rattle.rolled_plant.proofs.Arriving.{none_before, inflow_grows}

pub arriving_is : (plant : Plant) (before : List Start) (period state time : ℕ) → All (λ start. start.period < period) before → period ≤ time
    → pos (arriving_at plant before state time) ≡ gained_by plant before state time -ℤ gained_before plant before state time
unfolding arriving_at stock outflow
arriving_is plant before period state zero early late =
    let none = none_before before (λ k d l. (let is = early k d l in omega arith)) in
    let takes : sum_by (taken plant state 0) before ≡ 0 = ap (sum_by (taken plant state 0)) none in
    let grows = inflow_grows plant before state 0 in
    omega (arith, ints, takes, grows)
arriving_is plant before period state (suc time) early late =
    let takes : sum_by (taken plant state (suc time)) before ≡ sum_by (taken plant state time) before =
    sum_by-agree (taken plant state (suc time)) (taken plant state time) before
    (λ k d l. let is = early k d l in taken_past plant state (suc time) time (get_or before k d) (omega arith) (omega arith)) in
    let grows = inflow_grows plant before state (suc time) in
    omega (arith, ints, takes, grows)
