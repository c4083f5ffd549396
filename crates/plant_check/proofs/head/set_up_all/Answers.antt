-- There is room, so there is a program with the setups.
use Rattle.std.proofs.Common.{ap, sym, ◌∙◌}
use Rattle.std.specs.Prelude.{is_some}
use Rattle.std.proofs.lemmas.Bool.{false≢true}
use Rattle.plant_check.proofs.head.set_up_all.Goals as goal

pub unreachable-requires : goal.unreachable-requires
unreachable-requires c = false≢true (sym (ap is_some c.in-None.is) ∙ c.in_ok-wide.ensures.room.1 c.requires.room)
