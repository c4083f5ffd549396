-- There are few slots.
use Rattle.std.proofs.Common.{length, ap, ◌∙◌, arith}
use Rattle.std.proofs.lemmas.List.{length-map}
use Rattle.time_grid.specs.Slots.{slots}
use Rattle.time_grid.proofs.SlotList.{few-slots}
use Rattle.utility_rows.specs.LoadRows.{load_parts}
use Rattle.utility_rows.proofs.rows.load_row.Goals as goal

pub entries_of-requires : goal.entries_of-requires
entries_of-requires c =
    let plant = c.args.plant.now in
    let long = ap length c.fill.ensures ∙ length-map (slots plant) (load_parts plant c.args.utility c.args.period) in
    omega (arith, long, few-slots plant c.requires.sound)
