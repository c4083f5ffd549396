use Rattle.std.proofs.Common.{◌≡◌, ℕ, ◌+◌, ◌*◌, ◌^◌, ◌<◌, ◌≤◌, length, sum, sum_by, take}
use Rattle.stn_model.specs.Stock.{taken_by}
use Rattle.plan_sim.specs.Moves.{summed}
use Rattle.plan_sim.proofs.moves.add_inputs.Given as goal

abbrev pub invariant-loop-input : goal.invariant-loop-input
invariant-loop-input l = record {
  kept : length l.cells ≡ length l.initial.cells;
  moved : (r c : ℕ) → c < l.width → summed l.cells l.width r c ≡ summed l.initial.cells l.width r c + sum_by (taken_by r c l.start) (take l.input-index l.inputs);
  total : sum l.cells ≤ sum l.initial.cells + l.input-index * 2 ^ 52;
}
