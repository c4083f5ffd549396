use Rattle.std.proofs.Common.{map}
use Rattle.derivation_lines.specs.Tail.{counts_of, entry_line, factor_line, group_line, row_line}
use Rattle.derivation_lines.proofs.LineTexts.{put_parts}
use Rattle.derivation_lines.proofs.printing.put_derived.Goals as goal

pub returns : goal.returns
returns c =
    let d = c.args.derived.now in
    put_parts c.args.text.now.items c.put_row.new.text.items c.put_factors.new.text.items c.put_groups.new.text.items c.put_entries.new.text.items (row_line d (counts_of d)) (map factor_line d.factors) (map group_line d.groups) (map entry_line d.entries)
    c.in_ok-put_row.ensures (rw c.as_slice.ensures at c.in_ok-put_factors.ensures) (rw c.as_slice-2.ensures at c.in_ok-put_groups.ensures) (rw c.as_slice-3.ensures at c.in_ok-put_entries.ensures)
