use Rattle.std.proofs.Common.{◌≡◌, ◌≤◌, ◌^◌, length, map, pos, All, unsigned_abs}
use Rattle.std.specs.List.{range_with_len}
use Rattle.stn_model.specs.Load.{load}
use Rattle.plan_picture.proofs.levels.loads_of.Given as goal

abbrev pub invariant-loop-period : goal.invariant-loop-period
invariant-loop-period l = record {
  value : l.levels.items ≡ map (λ period. pos (load l.plant l.plan l.utility period)) (range_with_len 0 l.period);
  len : length l.levels.items ≡ l.period;
  small : All (λ level. unsigned_abs level ≤ 2 ^ 88) l.levels.items;
}
