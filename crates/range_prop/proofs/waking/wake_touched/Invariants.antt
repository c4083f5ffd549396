-- The rows of the slots so far wait, and what waited before does.
use Rattle.std.proofs.Common.{◌≡◌, ℕ, true, length, take}
use Rattle.std.specs.List.{All}
use Rattle.range_prop.specs.Index.{list_of}
use Rattle.range_prop.specs.laws.Queue.{waits, AreAwake}
use Rattle.range_prop.proofs.waking.wake_touched.Given as goal

abbrev pub invariant-loop-cut : goal.invariant-loop-cut
invariant-loop-cut l = record {
  count : length l.queue.waiting.items ≡ length l.initial.queue.waiting.items;
  kept : (row : ℕ) → waits l.initial.queue.waiting.items row ≡ true → waits l.queue.waiting.items row ≡ true;
  woken : All (λ cut. AreAwake l.queue.waiting.items l.cutter (list_of l.index cut.slot)) (take l.cut-index l.cuts);
}
