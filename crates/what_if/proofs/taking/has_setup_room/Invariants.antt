-- What was counted so far, and the setups that are left, are what there is; each setup has fewer than 2^32 slots and rows.
use Rattle.std.proofs.Common.{◌≡◌, ◌+◌, ◌*◌, ◌^◌, ◌≤◌, drop}
use Rattle.setup_slots.specs.Several.{rows_with, slots_with}
use Rattle.what_if.proofs.taking.has_setup_room.Given as goal

abbrev pub invariant-loop-unit : goal.invariant-loop-unit
invariant-loop-unit l = record {
  slots : slots_with l.plant (drop l.unit-index l.units) l.all_slots ≡ slots_with l.plant l.units l.fn.slots;
  rows : rows_with l.plant (drop l.unit-index l.units) l.all_rows ≡ rows_with l.plant l.units l.fn.rows;
  few_slots : l.all_slots ≤ 2 ^ 70 + 4294967296 * l.unit-index;
  few_rows : l.all_rows ≤ 2 ^ 70 + 4294967296 * l.unit-index;
}
