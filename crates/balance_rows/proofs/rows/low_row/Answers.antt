use Rattle.std.proofs.Common.{length, ap, ◌∙◌, arith}
use Rattle.std.proofs.lemmas.List.{length-map}
use Rattle.time_grid.specs.Slots.{slots}
use Rattle.time_grid.proofs.SlotList.{few-slots}
use Rattle.balance_rows.specs.StockRows.{low_parts}
use Rattle.balance_rows.proofs.rows.low_row.Goals as goal

pub entries_of-requires : goal.entries_of-requires
entries_of-requires c =
    let plant = c.args.plant.now in
    let long = ap length c.fill_low.ensures ∙ length-map (slots plant) (low_parts plant c.args.state c.args.time) in
    omega (arith, long, few-slots plant c.requires.sound)
