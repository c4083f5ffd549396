-- What is declared so far is the same.
use Rattle.std.proofs.Common.{◌≡◌, take}
use Rattle.log_parts.specs.Heads.{items_of}
use Rattle.log_parts.proofs.fronts.other_line.Given as goal

abbrev pub invariant-loop-place : goal.invariant-loop-place
invariant-loop-place l = take l.place (items_of l.given) ≡ take l.place (items_of l.own)
