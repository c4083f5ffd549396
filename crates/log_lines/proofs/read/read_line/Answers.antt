use Rattle.log_lines.proofs.SaidLines.{read_said}
use Rattle.log_lines.proofs.read.read_line.Goals as goal

pub returns-clause-said : goal.returns-clause-said
returns-clause-said c = read_said c.args.bytes.now c.read.result c.read.ensures
