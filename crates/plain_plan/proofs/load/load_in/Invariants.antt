use Rattle.std.proofs.Common.{◌≡◌, ◌≤◌, ◌*◌, ◌^◌, sum_by, take}
use Rattle.stn_model.specs.Load.{drawn}
use Rattle.plain_plan.proofs.load.load_in.Given as goal

abbrev pub invariant-loop-start : goal.invariant-loop-start
invariant-loop-start l = record {
  value : l.sum ≡ sum_by (drawn l.plant l.utility l.period) (take l.start-index l.plan);
  small : l.sum ≤ l.start-index * 2 ^ 56;
}
