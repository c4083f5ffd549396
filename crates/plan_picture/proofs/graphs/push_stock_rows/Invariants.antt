use Rattle.std.proofs.Common.{◌≡◌, ◌≤◌, ◌++◌}
use Rattle.std.specs.List.{flat_map, range_with_len}
use Rattle.plan_picture.specs.Graphs.{touched_before, stock_row}
use Rattle.plan_picture.proofs.graphs.push_stock_rows.Given as goal

abbrev pub invariant-loop-state : goal.invariant-loop-state
invariant-loop-state l = record {
  text : l.text.items ≡ l.initial.text.items ++ flat_map (stock_row l.shown.plant.now l.shown.plan.now l.band) (range_with_len 0 l.state);
  place : l.rows ≡ touched_before l.shown.plant.now l.shown.plan.now l.state;
  small : l.rows ≤ l.state;
}
