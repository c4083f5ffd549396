use Rattle.std.proofs.Common.{◌≡◌, ◌++◌}
use Rattle.std.specs.Prelude.{slice_index_or}
use Rattle.std.specs.List.{flat_map, range_with_len}
use Rattle.listing_commands.specs.Numbering.{row_line, no_name}
use Rattle.listing_commands.proofs.named_lines.push_rows.Given as goal

abbrev pub invariant-loop-number : goal.invariant-loop-number
invariant-loop-number l = l.text.items ≡ l.initial.text.items ++ flat_map (λ number. row_line l.plant number (slice_index_or l.names number no_name)) (range_with_len 0 l.number)
