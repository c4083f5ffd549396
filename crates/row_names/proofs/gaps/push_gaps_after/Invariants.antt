use Rattle.std.proofs.Common.{◌≡◌, ◌++◌, map}
use Rattle.std.specs.Prelude.{filter}
use Rattle.std.specs.List.{range_with_len}
use Rattle.unit_rows.specs.Gaps.{is_too_soon}
use Rattle.row_names.specs.declared.name.RowName.TheVariants.{Gap}
use Rattle.row_names.specs.RowNames.{slot_at}
use Rattle.row_names.proofs.gaps.push_gaps_after.Given as goal

abbrev pub invariant-loop-second : goal.invariant-loop-second
invariant-loop-second l = l.names.items ≡ l.initial.names.items ++ map (Gap l.unit l.first) (filter (λ second. is_too_soon l.plant (slot_at l.plant l.first) (slot_at l.plant second)) (range_with_len 0 l.second))
