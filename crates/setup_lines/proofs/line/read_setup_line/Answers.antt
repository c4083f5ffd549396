use Rattle.setup_lines.proofs.Lines.{read_digits, read_none}
use Rattle.setup_lines.proofs.line.read_setup_line.Goals as goal

pub returns-in-Some : goal.returns-in-Some
returns-in-Some c = read_digits c.args.bytes.now c.in-Some.digits.now c.read_wide.result c.in-Some.ensures c.read_wide.ensures.printed

pub returns-in-None : goal.returns-in-None
returns-in-None c = read_none c.args.bytes.now c.in-None.ensures
