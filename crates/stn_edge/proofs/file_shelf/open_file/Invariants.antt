use Rattle.std.proofs.Common.{◌≤◌}
use Rattle.stn_edge.proofs.file_shelf.open_file.Given as goal

-- the count has not fallen
abbrev pub invariant-loop : goal.invariant-loop
invariant-loop g l = l.initial.faults ≤ l.faults
