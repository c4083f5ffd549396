-- What has been taken and what is still to take give the whole.
use Rattle.std.proofs.Common.{◌≡◌, drop, ◌++◌}
use Rattle.dual_climb.proofs.Numbering.{kept}
use Rattle.dual_climb.proofs.factors.gathered.Given as goal

abbrev pub invariant-loop-mult : goal.invariant-loop-mult
invariant-loop-mult l = record { whole : l.list ++ kept (drop l.mult-index l.all) ≡ kept l.all }
