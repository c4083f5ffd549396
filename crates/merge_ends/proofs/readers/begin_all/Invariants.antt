-- The first logs, so many, begin their proofs.
use Rattle.std.proofs.Common.{take}
use Rattle.merge_ends.specs.laws.Begun.{AreBegun}
use Rattle.merge_ends.proofs.readers.begin_all.Given as goal

abbrev pub invariant-loop-number : goal.invariant-loop-number
invariant-loop-number l = AreBegun l.work.fronts.now (take l.number-index l.work.order.now) l.sources.items
