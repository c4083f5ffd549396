-- Nothing may come after the end, and a defect stays the first.
use Rattle.std.proofs.Common.{map, subst}
use Rattle.row_relax.specs.Choices.{choices_of, steps_of}
use Rattle.row_relax.specs.View.{view_of}
use Rattle.proof_tree.specs.Views.{present}
use Rattle.log_check.specs.Course.{MayTake}
use Rattle.log_check.proofs.Items.{stays_faulty}
use Rattle.log_check.proofs.checker.Checker.take.Goals as goal

pub returns-in-Ended : goal.returns-in-Ended
returns-in-Ended c = absurd (subst (λ x. MayTake (steps_of c.args.rows.now) x c.args.self.now.walk (present (map view_of c.args.self.now.area)) c.args.item) c.in-Ended.is c.requires.may)

pub returns-clause-stands : goal.returns-clause-stands
returns-clause-stands c root items at stand =
    stays_faulty (steps_of c.args.rows.now) (choices_of c.args.rows.now) root items c.args.item c.args.self.now.walk (map view_of c.args.self.now.area) c.args.self.now.course c.in-Faulty.field-0 c.in-Faulty.is stand
