-- A row has few entries, and each counts little.
use Rattle.std.proofs.Common.{◌*◌, ◌+◌, ◌^◌, ap, length, arith}
use Rattle.dual_bound.proofs.Fit.{few_entries}
use Rattle.dual_bound.proofs.LineSums.{all_within_le}
use Rattle.dual_bound.proofs.lines.add_row.Goals as goal

pub add_entries-requires-clause-few : goal.add_entries-requires-clause-few
add_entries-requires-clause-few c = omega (arith, ap length c.as_slice.ensures, few_entries (length c.args.lines.now) 10000000 c.args.row.now.entries c.requires.bounded.entries, c.requires.slots)

pub returns-clause-within : goal.returns-clause-within
returns-clause-within c = λ most h.
    let n = length c.as_slice.result.now in
    all_within_le (most + 2 ^ 71 * n) (most + 2 ^ 83) c.add_entries.new.lines (omega (arith, ap length c.as_slice.ensures, few_entries (length c.args.lines.now) 10000000 c.args.row.now.entries c.requires.bounded.entries, c.requires.slots)) (c.add_entries.ensures.within most h)
