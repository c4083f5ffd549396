use Rattle.std.proofs.Common.{◌≤◌}
use Rattle.stn_edge.specs.Written.{IsRestLeft}
use Rattle.stn_edge.proofs.faults.write_whole.Given as goal

-- the count has not fallen, and what is gone from the rest was appended
abbrev pub invariant-loop : goal.invariant-loop
invariant-loop g l = record {
  later : l.initial.faults ≤ l.faults;
  left : IsRestLeft l.initial.rest (g.W.Write.contents l.initial.to) (g.W.Write.contents l.to) l.rest;
}
