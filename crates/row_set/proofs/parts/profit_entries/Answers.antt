-- The slots are few.
use Rattle.std.proofs.Common.{◌≤◌, length, ap, arith}
use Rattle.row_set.specs.ProfitParts.{profit_part}
use Rattle.unit_rows.proofs.Growing.{few_parts}
use Rattle.row_set.proofs.parts.profit_entries.Goals as goal

pub entries_of-requires : goal.entries_of-requires
entries_of-requires c =
    let few : length c.in_ok-parts.parts.items ≤ 4096 = few_parts c.args.plant.now (profit_part c.args.plant.now) c.in_ok-parts.parts.items c.requires.sound c.in_ok-parts.ensures in
    omega (arith, few, ap length c.deref.ensures.value)
