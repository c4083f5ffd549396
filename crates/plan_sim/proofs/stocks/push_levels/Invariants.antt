use Rattle.std.proofs.Common.{◌≡◌, ◌≤◌, ◌+◌, ◌*◌, ◌^◌, sum, take, drop}
use Rattle.std.specs.Prelude.{All, unsigned_abs}
use Rattle.plan_sim.specs.Tables.{AddsLevels}
use Rattle.plan_sim.proofs.stocks.push_levels.Given as goal

abbrev pub invariant-loop-time : goal.invariant-loop-time
invariant-loop-time l = record {
  inflow : l.inflow ≡ l.opening + sum (take l.time (drop (l.state * l.width) l.arrived));
  outflow : l.outflow ≡ sum (take l.time (drop (l.state * l.width) l.departed));
  levels : AddsLevels l.initial.stocks.items l.stocks.items l.opening l.width l.state l.time l.arrived l.departed;
  small : All (λ level. unsigned_abs level ≤ 2 ^ 90) l.stocks.items;
}
