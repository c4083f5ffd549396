use Rattle.std.proofs.Common.{◌<◌, length, pos, arith, sym, ◌∙◌}
use Rattle.std.proofs.lemmas.List.{take_all}
use Rattle.plant_text.proofs.Slots.{gap_pairs-is}
use Rattle.plant_text.proofs.sizes.all_pairs.Goals as goal

pub pairs_after-count-requires-clause-first : goal.pairs_after-count-requires-clause-first
pairs_after-count-requires-clause-first c =
    let within : c.loop-number.number < length c.args.plant.now.runs = rw (← c.as_slice-a-items.ensures) (omega arith) in
    rw c.as_slice-a-items.ensures (c.requires.rows.each c.loop-number.number (record { task = 0; unit = 0; min = 0; max = 0; cost = pos 0 }) within)

pub returns : goal.returns
returns c =
    let whole = take_all c.loop-number.number c.as_slice-a-items.result.now c.loop-number-test.false in
    c.loop-number.invariant.counted ∙ rw (whole, c.as_slice-a-items.ensures) (sym (gap_pairs-is c.args.plant.now))
