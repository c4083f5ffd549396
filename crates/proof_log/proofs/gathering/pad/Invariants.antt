use Rattle.std.proofs.Common.{◌≡◌, ◌-◌, ◌++◌, length, replicate}
use Rattle.proof_log.proofs.gathering.pad.Given as goal

-- so many zeroes have been put to the end
abbrev pub invariant-loop : goal.invariant-loop
invariant-loop l = l.point ≡ l.initial.point ++ replicate (l.counter - length l.initial.point) 0
