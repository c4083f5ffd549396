-- There is room, so there is a program with the setups.
use Rattle.std.proofs.Common.{ap, sym, ◌∙◌}
use Rattle.std.specs.Prelude.{is_some}
use Rattle.std.proofs.lemmas.Bool.{false≢true}
use Rattle.head_choice.proofs.UnitsSet.{room-enough}
use Rattle.head_choice.proofs.widening.with_units.Goals as goal

pub unreachable-requires : goal.unreachable-requires
unreachable-requires c = false≢true (sym (ap is_some c.in-None.is) ∙ c.in_ok-set.ensures.room.1 (room-enough c.args.plant.now c.args.between c.args.units.now c.requires.room))
