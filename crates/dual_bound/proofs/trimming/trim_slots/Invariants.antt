-- The slots so far are trimmed, the others are as before.
use Rattle.dual_bound.specs.laws.Reach.{must_reach}
use Rattle.row_kit.specs.Area.{present}
use Rattle.dual_bound.proofs.Trims.{IsTrimmedTo}
use Rattle.dual_bound.proofs.trimming.trim_slots.Given as goal

abbrev pub invariant-loop-slot : goal.invariant-loop-slot
invariant-loop-slot l = IsTrimmedTo (must_reach l.lines l.spare (present l.initial.area)) l.initial.area l.area l.slot
