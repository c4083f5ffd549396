use Rattle.std.proofs.Common.{◌≡◌, ◌++◌, map}
use Rattle.std.specs.Prelude.{filter}
use Rattle.std.specs.List.{range_with_len}
use Rattle.unit_rows.specs.Firsts.{is_early_on}
use Rattle.row_names.specs.declared.name.RowName.TheVariants.{Last}
use Rattle.row_names.specs.RowNames.{slot_at}
use Rattle.row_names.proofs.firsts.push_firsts_on.Given as goal

abbrev pub invariant-loop-slot : goal.invariant-loop-slot
invariant-loop-slot l = l.names.items ≡ l.initial.names.items ++ map (Last l.unit) (filter (λ slot. is_early_on l.plant l.unit (slot_at l.plant slot)) (range_with_len 0 l.slot))
