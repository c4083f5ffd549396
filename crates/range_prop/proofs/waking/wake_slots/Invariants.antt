-- The rows of the slots so far wait.
use Rattle.std.proofs.Common.{◌≡◌, length, take}
use Rattle.std.specs.List.{All}
use Rattle.range_prop.specs.Index.{list_of}
use Rattle.range_prop.specs.laws.Queue.{AreAwake}
use Rattle.range_prop.proofs.waking.wake_slots.Given as goal

abbrev pub invariant-loop-slot : goal.invariant-loop-slot
invariant-loop-slot l = record {
  count : length l.queue.waiting.items ≡ length l.initial.queue.waiting.items;
  woken : All (λ slot. AreAwake l.queue.waiting.items l.but (list_of l.index slot)) (take l.slot-index l.slots);
}
