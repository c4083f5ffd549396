use Rattle.std.proofs.Common.{arith}
use Rattle.log_lines.proofs.LineTexts.{split_refused}
use Rattle.log_lines.proofs.read.split.Goals as goal

pub returns-else-max-le254 : goal.returns-else-max-le254
returns-else-max-le254 c = split_refused c.in-Some.slot c.in-Some.max c.in-Some.scale c.in-Some.count c.args.rest.now c.in-Some.ensures (omega arith)
