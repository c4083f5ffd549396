-- The sums so far are declared and shown, and there is room for them.
use Rattle.std.proofs.Common.{◌≤◌, length}
use Rattle.std.specs.List.{All}
use Rattle.sum_slots.specs.Shown.{IsShown}
use Rattle.sum_slots.specs.Sum.{IsDeclared}
use Rattle.sum_choice.proofs.admitting.admitted.Given as goal

abbrev pub invariant-loop-sum : goal.invariant-loop-sum
invariant-loop-sum l = record {
  declared : All (IsDeclared (length l.program.root)) l.sums;
  shown : All (IsShown l.program l.ranges) l.sums;
  room : length l.sums ≤ l.room;
}
