use Rattle.derivation_lines.proofs.Beginnings.{cut_begins, cut_row_far, cut_slot_far}
use Rattle.derivation_lines.proofs.beginning.cut_of.Goals as goal

pub returns-in-Some-there : goal.returns-in-Some-there
returns-in-Some-there c =
    cut_begins c.args.limits.now c.args.before c.args.row c.args.slot (record { row = c.in-Some.row; slot = c.in-Some-there.slot }) c.requires.may_be c.in-Some.ensures.0 c.in-Some.ensures.1 c.in-Some-there.ensures.0 c.in-Some-there.ensures.1

pub returns-in-None-there : goal.returns-in-None-there
returns-in-None-there c = cut_slot_far c.args.limits.now c.args.before c.args.row c.args.slot c.requires.may_be c.in-Some.ensures.1 c.in-None-there.ensures

pub returns-in-None : goal.returns-in-None
returns-in-None c = cut_row_far c.args.limits.now c.args.before c.args.row c.args.slot c.requires.may_be c.in-None.ensures
