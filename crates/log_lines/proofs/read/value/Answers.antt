use Rattle.std.proofs.Common.{arith}
use Rattle.log_lines.proofs.LineTexts.{value_refused}
use Rattle.log_lines.proofs.read.value.Goals as goal

pub returns-else-quanta-ge1 : goal.returns-else-quanta-ge1
returns-else-quanta-ge1 c = value_refused c.in-Some.slot c.in-Some.quanta c.args.rest.now c.in-Some.ensures (λ low. omega arith)
