-- There are at most as many profit entries as slots.
use Rattle.std.proofs.Common.{length, ap, arith}
use Rattle.std.proofs.lemmas.Int.{ints}
use Rattle.row_kit.proofs.Ascending.{few_entries}
use Rattle.row_kit.proofs.point.earned.Goals as goal

pub returns-clause-small : goal.returns-clause-small
returns-clause-small c =
    let program = c.args.program.now in
    let few = few_entries (length program.root) 2000000000000000 program.profit program.profit_bounded in
    omega (arith, ints, c.entries_sum.ensures.small, ap length c.as_slice.ensures, few, program.few_slots, program.base_bounded)
