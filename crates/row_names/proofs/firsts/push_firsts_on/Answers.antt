-- One more slot, where it is too early or not, and all.
use Rattle.std.proofs.Common.{◌≡◌, ◌++◌, ◌∙◌, ℕ, ◌<◌, ap, sym, length, map, arith}
use Rattle.std.specs.Prelude.{filter, slice_index_or}
use Rattle.std.specs.List.{range_with_len}
use Rattle.std.proofs.lemmas.List.{get_or_default}
use Rattle.time_grid.specs.Slots.{slots}
use Rattle.time_grid.proofs.SlotList.{grid-are}
use Rattle.unit_rows.specs.Firsts.{is_early_on}
use Rattle.row_names.specs.declared.name.RowName.TheVariants.{Last}
use Rattle.row_names.specs.RowNames.{slot_at, firsts_on}
use Rattle.row_names.proofs.Ranges.{item_taken, item_left}
use Rattle.row_names.proofs.firsts.push_firsts_on.Goals as goal
use Rattle.row_names.proofs.firsts.push_firsts_on.Goals.{then-is_early_on+in_ok-push, else-is_early_on}

pub is_early_on-requires : goal.is_early_on-requires
is_early_on-requires c = (grid-are c.args.plant.now c.args.grid.now c.loop-slot.slot c.run_period.result c.requires.grid (omega arith) c.run_period.ensures).run

pub loop-slot-preserved : goal.loop-slot-preserved
loop-slot-preserved c =
    let p = λ (slot : ℕ). is_early_on c.args.plant.now c.args.unit (slot_at c.args.plant.now slot) in
    let within : c.loop-slot.slot < length c.args.grid.now = omega arith in
    let here : c.run_period.result ≡ slot_at c.args.plant.now c.loop-slot.slot =
    c.run_period.ensures ∙ get_or_default c.args.grid.now c.loop-slot.slot c.run_period.result (0, 0) within ∙ ap (λ grid. slice_index_or grid c.loop-slot.slot (0, 0)) c.requires.grid in
    let test = c.is_early_on.ensures ∙ ap (λ slot. is_early_on c.args.plant.now c.args.unit slot) here in
    elim c.if-is_early_on.branch [
      | then-is_early_on+in_ok-push w ↦ rw w.names-is (item_taken (Last c.args.unit) p c.args.names.now.items c.loop-slot.names.items w.push.new.self.items c.loop-slot.slot (sym test ∙ w.if-is_early_on.true) c.loop-slot.invariant w.in_ok-push.ensures.items)
      | else-is_early_on w ↦ rw w.names-is (item_left (Last c.args.unit) p c.args.names.now.items c.loop-slot.names.items c.loop-slot.slot (sym test ∙ w.if-is_early_on.false) c.loop-slot.invariant)
    ]

pub returns : goal.returns
unfolding firsts_on
returns c =
    let all : c.loop-slot.slot ≡ length (slots c.args.plant.now) = omega (arith, ap length c.requires.grid) in
    let p = λ (slot : ℕ). is_early_on c.args.plant.now c.args.unit (slot_at c.args.plant.now slot) in
    c.loop-slot.invariant ∙ ap (λ n. c.args.names.now.items ++ map (Last c.args.unit) (filter p (range_with_len 0 n))) all
