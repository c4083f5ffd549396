-- The slots and rows so far, with those of the units that are left, are those of all, and there is room for them.
use Rattle.std.proofs.Common.{◌≡◌, ◌≤◌, length, drop}
use Rattle.setup_slots.specs.Several.{rows_with, slots_with}
use Rattle.head_choice.proofs.setting.has_unit_room.Given as goal

abbrev pub invariant-loop-unit : goal.invariant-loop-unit
invariant-loop-unit l = record {
  slots : slots_with l.plant l.units (length l.program.root) ≡ slots_with l.plant (drop l.unit-index l.units) l.slots;
  rows : rows_with l.plant l.units (length l.program.rows) ≡ rows_with l.plant (drop l.unit-index l.units) l.rows;
  few_slots : l.slots ≤ 999;
  few_rows : l.rows ≤ 45904;
}
