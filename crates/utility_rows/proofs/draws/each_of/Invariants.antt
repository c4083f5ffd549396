use Rattle.std.proofs.Common.{◌≡◌, ◌≤◌, ◌*◌, ◌^◌, sum_by, take}
use Rattle.utility_rows.specs.LoadRows.{each_in}
use Rattle.utility_rows.proofs.draws.each_of.Given as goal

abbrev pub invariant-loop-draw : goal.invariant-loop-draw
invariant-loop-draw l = record {
  value : l.sum ≡ sum_by (each_in l.utility l.k) (take l.draw-index l.draws);
  small : l.sum ≤ l.draw-index * 2 ^ 20;
}
