-- There is a factor for each row, and what the slots gain.
use Rattle.row_kit.specs.Area.{present}
use Rattle.dual_climb.specs.laws.Held.{IsClimbing}
use Rattle.dual_climb.proofs.moving.Climbing.move_factors.Given as goal

abbrev pub invariant-loop-number : goal.invariant-loop-number
invariant-loop-number l = record { climbing : IsClimbing l.program (present l.area) l.scale l.self }
