use Rattle.std.proofs.Common.{arith}
use Rattle.log_lines.proofs.LineTexts.{mult_refused}
use Rattle.log_lines.proofs.read.mult.Goals as goal

pub returns-else-factor-ge-LEAST_FACTOR : goal.returns-else-factor-ge-LEAST_FACTOR
returns-else-factor-ge-LEAST_FACTOR c = mult_refused c.in-Some.row c.in-Some.factor c.args.rest.now c.in-Some.ensures (omega arith)
