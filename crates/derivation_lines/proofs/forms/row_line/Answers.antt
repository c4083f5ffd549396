use Rattle.std.proofs.Common.{pos}
use Rattle.derivation_lines.proofs.NumberForms.{seven_is}
use Rattle.derivation_lines.proofs.forms.row_line.Goals as goal

pub returns-clause-numbers : goal.returns-clause-numbers
returns-clause-numbers c =
    seven_is c.args.numbers.now (pos c.small.result) (pos c.small-2.result) (pos c.small-3.result) (pos c.small-4.result) (pos c.small-5.result) (pos c.small-6.result) (pos c.small-7.result) c.requires.seven c.small.ensures c.small-2.ensures c.small-3.ensures
    c.small-4.ensures c.small-5.ensures c.small-6.ensures c.small-7.ensures
