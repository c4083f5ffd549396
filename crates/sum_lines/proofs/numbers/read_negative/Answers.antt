use Rattle.std.proofs.Common.{arith}
use Rattle.sum_lines.proofs.NumberWords.{no_negative}
use Rattle.sum_lines.proofs.numbers.read_negative.Goals as goal

pub returns-in-None : goal.returns-in-None
returns-in-None c = no_negative c.args.limit c.args.digits.now (omega arith) c.in-None.ensures
