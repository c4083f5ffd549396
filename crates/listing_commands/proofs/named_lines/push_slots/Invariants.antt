use Rattle.std.proofs.Common.{◌≡◌, ◌++◌}
use Rattle.std.specs.List.{flat_map, range_with_len}
use Rattle.row_names.specs.RowNames.{slot_at}
use Rattle.listing_commands.specs.Numbering.{slot_line}
use Rattle.listing_commands.proofs.named_lines.push_slots.Given as goal

abbrev pub invariant-loop-number : goal.invariant-loop-number
invariant-loop-number l = l.text.items ≡ l.initial.text.items ++ flat_map (λ number. slot_line l.plant number (slot_at l.plant number)) (range_with_len 0 l.number)
