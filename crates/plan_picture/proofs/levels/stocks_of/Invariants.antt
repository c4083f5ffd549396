use Rattle.std.proofs.Common.{◌≡◌, ◌≤◌, ◌^◌, length, map, All, unsigned_abs}
use Rattle.std.specs.List.{range_with_len}
use Rattle.stn_model.specs.Stock.{stock}
use Rattle.plan_picture.proofs.levels.stocks_of.Given as goal

abbrev pub invariant-loop-time : goal.invariant-loop-time
invariant-loop-time l = record {
  value : l.levels.items ≡ map (λ time. stock l.plant l.plan l.state time) (range_with_len 0 l.time);
  len : length l.levels.items ≡ l.time;
  small : All (λ level. unsigned_abs level ≤ 2 ^ 88) l.levels.items;
}
