use Rattle.std.proofs.Common.{◌≡◌, ◌≤◌, ◌*◌, ◌^◌, sum_by, take}
use Rattle.stn_model.specs.Load.{drawn_in}
use Rattle.utility_rows.proofs.draws.fixed_of.Given as goal

abbrev pub invariant-loop-draw : goal.invariant-loop-draw
invariant-loop-draw l = record {
  value : l.sum ≡ sum_by (drawn_in l.utility 0 l.k) (take l.draw-index l.draws);
  small : l.sum ≤ l.draw-index * 2 ^ 20;
}
