use Rattle.std.proofs.Common.{arith}
use Rattle.sum_lines.proofs.NumberWords.{not_zero}
use Rattle.sum_lines.proofs.numbers.read_some.Goals as goal

pub returns-else-number-ge1 : goal.returns-else-number-ge1
returns-else-number-ge1 c x may is = not_zero c.in-Some.number c.args.limit x c.args.word.now (omega arith) c.in-Some.ensures.printed.1 (omega arith) may.0 may.1 is
