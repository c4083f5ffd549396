-- The program has grown by the derivations so far.
use Rattle.std.proofs.Common.{take}
use Rattle.row_kit.specs.Area.{present}
use Rattle.derivations.specs.laws.Growing.{HasGrownAnew}
use Rattle.derivations.proofs.anew.grow_anew.Given as goal

abbrev pub invariant-loop-place : goal.invariant-loop-place
invariant-loop-place l = HasGrownAnew l.fn.program (present l.fn.area) (take l.place l.derivations) (present l.area) l.grown
