-- The rows so far wait, and what waited before does.
use Rattle.std.proofs.Common.{◌≡◌, ℕ, true, length, take}
use Rattle.range_prop.specs.laws.Queue.{waits, AreAwake}
use Rattle.range_prop.proofs.waking.wake_rows.Given as goal

abbrev pub invariant-loop-row : goal.invariant-loop-row
invariant-loop-row l = record {
  count : length l.queue.waiting.items ≡ length l.initial.queue.waiting.items;
  kept : (row : ℕ) → waits l.initial.queue.waiting.items row ≡ true → waits l.queue.waiting.items row ≡ true;
  woken : AreAwake l.queue.waiting.items l.cutter (take l.row-index l.rows);
}
