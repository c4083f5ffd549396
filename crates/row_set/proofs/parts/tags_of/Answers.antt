-- One more slot, and all.
use Rattle.std.proofs.Common.{◌∙◌, arith}
use Rattle.time_grid.specs.Slots.{slots}
use Rattle.row_set.specs.PlantProgram.{slot_tag}
use Rattle.time_grid.proofs.SlotList.{grid-are}
use Rattle.unit_rows.proofs.Growing.{map_next, map_done}
use Rattle.row_set.proofs.parts.tags_of.Goals as goal

pub slot_tag-requires : goal.slot_tag-requires
slot_tag-requires c = (grid-are c.args.plant.now c.args.grid.now c.loop-place.place c.run_period.result c.requires.grid (omega arith) c.run_period.ensures).run

pub loop-place-preserved : goal.loop-place-preserved
loop-place-preserved c =
    map_next (slot_tag c.args.plant.now) c.args.grid.now c.loop-place.tags.items c.push.new.self.items c.loop-place.place c.run_period.result c.slot_tag.result
    (omega arith) c.run_period.ensures c.slot_tag.ensures c.in_ok-push.ensures.items c.loop-place.invariant

pub returns : goal.returns
returns c =
    c.from_vec.ensures ∙ map_done (slot_tag c.args.plant.now) c.args.grid.now (slots c.args.plant.now) c.loop-place.tags.items c.loop-place.place
    (omega arith) c.requires.grid c.loop-place.invariant
