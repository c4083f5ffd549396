use Rattle.std.proofs.Common.{◌≡◌, ◌++◌, map}
use Rattle.std.specs.List.{flat_map, range_with_len}
use Rattle.balance_rows.specs.StockRows.{limit_count}
use Rattle.row_names.specs.declared.name.RowName.TheVariants.{High}
use Rattle.row_names.proofs.tables.push_high.Given as goal

abbrev pub invariant-loop-state : goal.invariant-loop-state
invariant-loop-state l = l.names.items ≡ l.initial.names.items ++ flat_map (λ state. map (High state) (range_with_len 0 (limit_count l.plant state))) (range_with_len 0 l.state)
