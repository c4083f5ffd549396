-- There is a factor for each row.
use Rattle.row_kit.specs.Area.{present}
use Rattle.dual_climb.specs.laws.Held.{IsClimbing}
use Rattle.dual_climb.proofs.climbing.ascend.Given as goal

abbrev pub invariant-loop : goal.invariant-loop
invariant-loop l = record { climbing : IsClimbing l.program (present l.area) l.start.scale l.climbing }
