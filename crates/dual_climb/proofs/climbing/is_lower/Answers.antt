-- A certificate with a total is usable.
use Rattle.row_kit.specs.Area.{present}
use Rattle.dual_climb.proofs.Usable.{keeps}
use Rattle.dual_climb.proofs.climbing.is_lower.Goals as goal

pub usable_total-requires-clause-usable : goal.usable_total-requires-clause-usable
usable_total-requires-clause-usable c = (keeps c.args.program.now (present c.args.area.now) c.args.cert.now c.requires.cert).usable

pub usable_total-requires-2-clause-usable : goal.usable_total-requires-2-clause-usable
usable_total-requires-2-clause-usable c = (keeps c.args.program.now (present c.args.area.now) c.args.other.now c.requires.other).usable
