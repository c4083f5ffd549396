use Rattle.std.proofs.Common.{◌≡◌, ℕ, ◌+◌, ◌*◌, ◌^◌, ◌<◌, ◌≤◌, length, sum}
use Rattle.plan_sim.specs.Moves.{cell, drawn_until}
use Rattle.plan_sim.proofs.loads.draw_task.Given as goal

abbrev pub invariant-loop-period : goal.invariant-loop-period
invariant-loop-period l = record {
  kept : length l.cells ≡ length l.initial.cells;
  drawn : (r c : ℕ) → c < l.width → cell l.cells l.width r c ≡ cell l.initial.cells l.width r c + drawn_until l.draws l.start l.period r c;
  total : sum l.cells ≤ sum l.initial.cells + l.period * 2 ^ 56;
}
