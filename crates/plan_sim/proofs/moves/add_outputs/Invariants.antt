use Rattle.std.proofs.Common.{◌≡◌, ℕ, ◌+◌, ◌*◌, ◌^◌, ◌<◌, ◌≤◌, length, sum, sum_by, take}
use Rattle.stn_model.specs.Stock.{given_by}
use Rattle.plan_sim.specs.Moves.{summed}
use Rattle.plan_sim.proofs.moves.add_outputs.Given as goal

abbrev pub invariant-loop-output : goal.invariant-loop-output
invariant-loop-output l = record {
  kept : length l.cells ≡ length l.initial.cells;
  moved : (r c : ℕ) → c < l.width → summed l.cells l.width r c ≡ summed l.initial.cells l.width r c + sum_by (given_by r c l.start) (take l.output-index l.outputs);
  total : sum l.cells ≤ sum l.initial.cells + l.output-index * 2 ^ 52;
}
