use Rattle.std.proofs.Common.{◌≡◌, ◌++◌}
use Rattle.std.specs.Prelude.{filter}
use Rattle.std.specs.List.{flat_map, range_with_len}
use Rattle.unit_rows.specs.Busy.{is_on}
use Rattle.row_names.specs.RowNames.{slot_at, gaps_after}
use Rattle.row_names.proofs.gaps.push_gaps_on.Given as goal

abbrev pub invariant-loop-first : goal.invariant-loop-first
invariant-loop-first l = l.names.items ≡ l.initial.names.items ++ flat_map (gaps_after l.plant l.unit) (filter (λ first. is_on l.plant l.unit (slot_at l.plant first)) (range_with_len 0 l.first))
