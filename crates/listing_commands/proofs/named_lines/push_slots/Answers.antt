-- The slot of each number is one of the plant, and all.
use Rattle.std.proofs.Common.{◌≡◌, ◌++◌, ◌∙◌, ℕ, ◌<◌, ap, sym, length, arith}
use Rattle.std.specs.Prelude.{slice_index_or}
use Rattle.std.specs.List.{flat_map, range_with_len}
use Rattle.std.proofs.lemmas.List.{get_or_default}
use Rattle.time_grid.specs.Slots.{slots}
use Rattle.time_grid.proofs.SlotList.{grid-are}
use Rattle.row_names.specs.RowNames.{slot_at}
use Rattle.listing_commands.specs.Numbering.{slot_line}
use Rattle.listing_commands.proofs.Ranges.{pieces_next}
use Rattle.listing_commands.proofs.named_lines.push_slots.Goals as goal

pub push_slot-requires : goal.push_slot-requires
push_slot-requires c = (grid-are c.args.plant.now c.args.grid.now c.loop-number.number c.run_period.result c.requires (omega arith) c.run_period.ensures).run

pub loop-number-preserved : goal.loop-number-preserved
loop-number-preserved c =
    let line = λ (number : ℕ). slot_line c.args.plant.now number (slot_at c.args.plant.now number) in
    let within : c.loop-number.number < length c.args.grid.now = omega arith in
    let here : c.run_period.result ≡ slot_at c.args.plant.now c.loop-number.number =
    c.run_period.ensures ∙ get_or_default c.args.grid.now c.loop-number.number c.run_period.result (0, 0) within ∙ ap (λ grid. slice_index_or grid c.loop-number.number (0, 0)) c.requires in
    pieces_next line c.args.text.now.items c.loop-number.text.items c.push_slot.new.text.items c.loop-number.number c.loop-number.invariant
    (c.in_ok-push_slot.ensures ∙ ap (λ slot. c.loop-number.text.items ++ slot_line c.args.plant.now c.loop-number.number slot) here)

pub returns : goal.returns
returns c =
    let all : c.loop-number.number ≡ length (slots c.args.plant.now) = omega (arith, ap length c.requires) in
    let line = λ (number : ℕ). slot_line c.args.plant.now number (slot_at c.args.plant.now number) in
    c.loop-number.invariant ∙ ap (λ n. c.args.text.now.items ++ flat_map line (range_with_len 0 n)) all
