use Rattle.std.proofs.Common.{◌≡◌, ◌<◌, length, get_or, arith}
use Rattle.time_grid.specs.Slots.{slots}
use Rattle.time_grid.proofs.SlotList.{grid-are}
use Rattle.part_commands.specs.Parting.{slot_lines}
use Rattle.part_commands.proofs.Ranges.{slot_more}
use Rattle.part_commands.proofs.parting.slot_lines.Goals as goal

pub loop-place-init : goal.loop-place-init
unfolding slot_lines
loop-place-init c = c.new-lines.ensures.items

pub slot_line-requires-clause-run : goal.slot_line-requires-clause-run
slot_line-requires-clause-run c =
    (grid-are c.args.plant.now c.in_ok-grid.grid c.loop-place.place c.run_period.result c.in_ok-grid.ensures.slots (let is = c.in_ok-grid.ensures.slots in rw is (omega arith)) c.run_period.ensures).run

pub loop-place-preserved : goal.loop-place-preserved
loop-place-preserved c =
    let is = c.in_ok-grid.ensures.slots in
    let within : c.loop-place.place < length (slots c.args.plant.now) = omega arith in
    let there : c.run_period.result ≡ get_or (slots c.args.plant.now) c.loop-place.place c.run_period.result = rw is at c.run_period.ensures in
    let more = slot_more c.args.plant.now c.loop-place.place c.run_period.result within there in
    cc (more, c.in_ok-extend_from_slice.ensures.items, c.as_slice.ensures.value, c.in_ok-line.ensures, c.loop-place.invariant)
