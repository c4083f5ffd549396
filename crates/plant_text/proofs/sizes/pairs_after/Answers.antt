use Rattle.std.proofs.Common.{◌<◌, length, pos, arith}
use Rattle.plant_text.proofs.sizes.pairs_after.Goals as goal

pub pairs_of-count-requires-clause-second : goal.pairs_of-count-requires-clause-second
pairs_of-count-requires-clause-second c =
    let within : c.loop-number.number < length c.args.plant.now.runs = rw (← c.as_slice-b-items.ensures) (omega arith) in
    rw c.as_slice-b-items.ensures (c.requires.rows.each c.loop-number.number (record { task = 0; unit = 0; min = 0; max = 0; cost = pos 0 }) within)
