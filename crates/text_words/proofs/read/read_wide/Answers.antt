use Rattle.std.proofs.Common.{Some, None, arith}
use Rattle.text_words.proofs.Printed.{number_below-is, above_limit, none_below}
use Rattle.text_words.proofs.read.read_wide.Goals as goal

pub returns-in-Some-clause-value : goal.returns-in-Some-clause-value
returns-in-Some-clause-value c =
    number_below-is c.args.limit c.args.word.now (Some c.in-Some.number) (omega arith) (omega arith, c.in-Some.ensures.1)

pub returns-in_default-clause-value : goal.returns-in_default-clause-value
returns-in_default-clause-value c =
    number_below-is c.args.limit c.args.word.now None (omega arith) (above_limit c.args.limit c.args.word.now c.in-Some.number (omega arith) (omega (arith, c.in-Some.ensures.0)) c.in-Some.ensures.1)

pub returns-in_default-clause-printed : goal.returns-in_default-clause-printed
returns-in_default-clause-printed c =
    above_limit c.args.limit c.args.word.now c.in-Some.number (omega arith) (omega (arith, c.in-Some.ensures.0)) c.in-Some.ensures.1

pub returns-in_default-2-clause-value : goal.returns-in_default-2-clause-value
returns-in_default-2-clause-value c =
    number_below-is c.args.limit c.args.word.now None (omega arith) (none_below c.args.limit c.args.word.now (omega arith) c.in_default.ensures)
