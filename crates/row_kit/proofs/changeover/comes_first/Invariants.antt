-- No start so far comes before this one: whether it comes first is left to the starts that are left.
use Rattle.std.proofs.Common.{◌≡◌, drop}
use Rattle.row_kit.specs.Change.{started, comes_first}
use Rattle.row_kit.proofs.changeover.comes_first.Given as goal

abbrev pub invariant-loop-slot : goal.invariant-loop-slot
invariant-loop-slot l = comes_first (started (drop l.slot l.tags) (drop l.slot l.point)) l.start ≡ comes_first (started l.tags l.point) l.start
