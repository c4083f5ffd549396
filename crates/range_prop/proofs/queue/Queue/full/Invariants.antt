-- The rows so far wait.
use Rattle.std.proofs.Common.{◌≡◌, ℕ, ◌<◌, true, length}
use Rattle.range_prop.specs.laws.Queue.{waits}
use Rattle.range_prop.proofs.queue.Queue.full.Given as goal

abbrev pub invariant-loop-row : goal.invariant-loop-row
invariant-loop-row l = record {
  count : length l.queue.waiting.items ≡ l.count;
  so_far : (row : ℕ) → row < l.row → waits l.queue.waiting.items row ≡ true;
}
