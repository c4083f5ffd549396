-- The walk has taken a tested item.
use Rattle.std.proofs.Common.{map, ◌≡◌, ap, ◌∙◌}
use Rattle.row_relax.specs.Choices.{choices_of, steps_of}
use Rattle.row_relax.specs.View.{view_of}
use Rattle.log_check.specs.Course.{end_kind, course_of}
use Rattle.log_check.proofs.Items.{took_item}
use Rattle.log_check.proofs.checker.Checker.advance.Goals as goal

pub returns-clause-stands : goal.returns-clause-stands
returns-clause-stands c root items at stand =
    let rows = c.args.rows.now in
    let course : c.course_of-self.result ≡ course_of c.in_ok-took.took c.args.line (end_kind c.args.item.now) = c.course_of-self.ensures ∙ ap (course_of c.in_ok-took.took c.args.line) c.end_kind.ensures in
    rw course
    (took_item (steps_of rows) (choices_of rows) root items c.args.item.now c.args.self.now.walk c.walk_on.new.self.walk (map view_of c.args.self.now.area) (map view_of c.walk_on.new.self.area) c.args.line c.in_ok-took.took c.requires.ready c.requires.may c.in_default.ensures.defect c.in_ok-took.ensures.step at stand)
