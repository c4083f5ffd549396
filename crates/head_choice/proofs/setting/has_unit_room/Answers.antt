-- One unit more takes its slots and rows, and in the end there is room for all.
use Rattle.std.proofs.Common.{◌≡◌, ◌≤◌, length, ◌∙◌, arith}
use Rattle.setup_slots.specs.Several.{rows_with, slots_with}
use Rattle.head_choice.proofs.UnitsSet.{rows-end, rows-on, slots-end, slots-on}
use Rattle.head_choice.proofs.setting.has_unit_room.Goals as goal

pub are_few_splits-requires-clause-own : goal.are_few_splits-requires-clause-own
are_few_splits-requires-clause-own c = omega (arith, c.len-own.ensures, c.args.program.now.few_slots)

pub loop-unit-preserved : goal.loop-unit-preserved
loop-unit-preserved c =
    let plant = c.args.plant.now in
    let units = c.args.units.now in
    let i = c.loop-unit.unit-index in
    let inv = c.loop-unit.invariant in
    record {
      slots = inv.slots ∙ slots-on plant units i c.loop-unit.slots c.in_ok-more_slots.more_slots c.loop-unit-test.true c.in_ok-more_slots.ensures.slots;
      rows = inv.rows ∙ rows-on plant units i c.loop-unit.rows c.in_ok-more_slots.more_rows c.loop-unit-test.true c.in_ok-more_slots.ensures.rows;
      few_slots = (c.are_few-in-loop-unit.ensures c.if-not-are_few-2.false).0;
      few_rows = (c.are_few-in-loop-unit.ensures c.if-not-are_few-2.false).1;
    }

pub returns : goal.returns
returns c =
    let plant = c.args.plant.now in
    let units = c.args.units.now in
    let program = c.args.program.now in
    let i = c.loop-unit.unit-index in
    let inv = c.loop-unit.invariant in
    let slots : slots_with plant units (length program.root) ≡ c.loop-unit.slots = inv.slots ∙ slots-end plant units i c.loop-unit.slots c.loop-unit-test.false in
    let rows : rows_with plant units (length program.rows) ≡ c.loop-unit.rows = inv.rows ∙ rows-end plant units i c.loop-unit.rows c.loop-unit-test.false in
    let few_slots = inv.few_slots in
    let few_rows = inv.few_rows in
    λ has.
    let splits = c.are_few_splits.ensures has in
    record { slots = omega (arith, slots, few_slots); splits = omega (arith, slots, splits, c.len-own.ensures); rows = omega (arith, rows, few_rows) }
