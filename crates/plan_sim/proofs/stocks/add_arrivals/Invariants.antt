use Rattle.std.proofs.Common.{◌≡◌, ℕ, ◌+◌, ◌*◌, ◌^◌, ◌<◌, ◌≤◌, length, sum, sum_by, take}
use Rattle.stn_model.specs.Stock.{given, received}
use Rattle.plan_sim.specs.Moves.{summed}
use Rattle.plan_sim.proofs.stocks.add_arrivals.Given as goal

abbrev pub invariant-loop-start : goal.invariant-loop-start
invariant-loop-start l = record {
  size : length l.cells ≡ length l.plant.states * (l.plant.periods + 1);
  moved : (state time : ℕ) → time < l.plant.periods + 1 → summed l.cells (l.plant.periods + 1) state time ≡ received l.plant state time + sum_by (given l.plant state time) (take l.start-index l.plan);
  total : sum l.cells ≤ 2 ^ 40 + l.start-index * 2 ^ 55;
}
