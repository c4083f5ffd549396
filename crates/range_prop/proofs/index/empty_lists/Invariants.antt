-- As many empty lists as steps.
use Rattle.std.proofs.Common.{◌≡◌, replicate, []}
use Rattle.range_prop.proofs.index.empty_lists.Given as goal

abbrev pub invariant-loop : goal.invariant-loop
invariant-loop l = l.lists.items ≡ replicate l.counter []
