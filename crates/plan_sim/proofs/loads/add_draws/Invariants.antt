use Rattle.std.proofs.Common.{◌≡◌, ℕ, ◌+◌, ◌*◌, ◌^◌, ◌<◌, ◌≤◌, length, sum, sum_by, take}
use Rattle.plan_sim.specs.Moves.{cell, draws_in}
use Rattle.plan_sim.proofs.loads.add_draws.Given as goal

abbrev pub invariant-loop-draw : goal.invariant-loop-draw
invariant-loop-draw l = record {
  kept : length l.cells ≡ length l.initial.cells;
  drawn : (r c : ℕ) → c < l.width → cell l.cells l.width r c ≡ cell l.initial.cells l.width r c + sum_by (draws_in l.start l.period r c) (take l.draw-index l.draws);
  total : sum l.cells ≤ sum l.initial.cells + l.draw-index * 2 ^ 53;
}
