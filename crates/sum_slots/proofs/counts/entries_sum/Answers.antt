-- There are at most as many entries as slots.
use Rattle.std.proofs.Common.{length, arith}
use Rattle.std.proofs.lemmas.Int.{ints}
use Rattle.row_kit.proofs.Ascending.{few_entries}
use Rattle.sum_slots.proofs.counts.entries_sum.Goals as goal

pub returns-clause-small : goal.returns-clause-small
returns-clause-small c =
    omega (arith, ints, c.loop-entry.invariant.small, few_entries (length c.args.point.now) 10000000 c.args.entries.now c.requires.bounded)
