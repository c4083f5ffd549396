use Rattle.std.proofs.Common.{◌≡◌, map, take}
use Rattle.time_grid.specs.Slots.{slots}
use Rattle.balance_rows.specs.StockRows.{high_parts}
use Rattle.balance_rows.proofs.rows.fill_high.Given as goal

abbrev pub invariant-loop-slot : goal.invariant-loop-slot
invariant-loop-slot l = take l.slot l.parts ≡ map (high_parts l.plant l.state l.time) (take l.slot (slots l.plant))
