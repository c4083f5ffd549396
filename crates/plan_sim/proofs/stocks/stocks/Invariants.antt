use Rattle.std.proofs.Common.{◌≡◌, ℕ, ◌+◌, ◌*◌, ◌^◌, ◌<◌, ◌≤◌, length}
use Rattle.std.specs.Prelude.{pos, slice_index_or, All, unsigned_abs}
use Rattle.stn_model.specs.Stock.{stock}
use Rattle.plan_sim.proofs.stocks.stocks.Given as goal

abbrev pub invariant-loop-state : goal.invariant-loop-state
invariant-loop-state l = record {
  size : length l.stocks.items ≡ l.state * (l.plant.periods + 1);
  level : (state time : ℕ) → state < l.state → time ≤ l.plant.periods → slice_index_or l.stocks.items (state * (l.plant.periods + 1) + time) (pos 0) ≡ stock l.plant l.plan state time;
  small : All (λ level. unsigned_abs level ≤ 2 ^ 90) l.stocks.items;
}
