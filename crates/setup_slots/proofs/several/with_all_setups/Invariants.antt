-- The setups that are left lead on from the program so far, and there is room for all where there is for them.
use Rattle.std.proofs.Common.{drop}
use Rattle.std.specs.Prelude.{◌↔◌}
use Rattle.row_kit.specs.declared.program.Program.{Program}
use Rattle.setup_slots.specs.Larger.{HasPlantSlots}
use Rattle.setup_slots.specs.Several.{AreSetUp, HaveRoom}
use Rattle.setup_slots.proofs.several.with_all_setups.Given as goal

abbrev pub invariant-loop-unit : goal.invariant-loop-unit
invariant-loop-unit l = record {
  sets : (q : Program) → AreSetUp l.plant (drop l.unit-index l.units) l.larger q → AreSetUp l.plant l.units l.initial.larger q;
  room : (HaveRoom l.plant l.units l.initial.larger) ↔ (HaveRoom l.plant (drop l.unit-index l.units) l.larger);
  slots : HasPlantSlots l.plant l.larger;
}
