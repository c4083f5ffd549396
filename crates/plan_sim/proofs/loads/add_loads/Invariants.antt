use Rattle.std.proofs.Common.{◌≡◌, ℕ, ◌*◌, ◌^◌, ◌<◌, ◌≤◌, length, sum, sum_by, take}
use Rattle.stn_model.specs.Load.{drawn}
use Rattle.plan_sim.specs.Moves.{cell}
use Rattle.plan_sim.proofs.loads.add_loads.Given as goal

abbrev pub invariant-loop-start : goal.invariant-loop-start
invariant-loop-start l = record {
  size : length l.cells ≡ length l.plant.utilities * l.plant.periods;
  loads : (utility period : ℕ) → period < l.plant.periods → cell l.cells l.plant.periods utility period ≡ sum_by (drawn l.plant utility period) (take l.start-index l.plan);
  total : sum l.cells ≤ l.start-index * 2 ^ 66;
}
