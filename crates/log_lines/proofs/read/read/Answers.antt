use Rattle.std.proofs.Common.{sym}
use Rattle.log_lines.proofs.LineTexts.{line_answer, line_unnamed}
use Rattle.log_lines.proofs.read.read.Goals as goal

pub returns-in-Some : goal.returns-in-Some
returns-in-Some c = line_answer c.in-Some.form c.args.bytes.now c.cut_name.result.0.now c.cut_name.result.1.now c.line_of.result c.cut_name.ensures (sym c.in-Some.ensures) c.line_of.ensures

pub returns-in-None : goal.returns-in-None
returns-in-None c = line_unnamed c.args.bytes.now c.cut_name.result.0.now c.cut_name.result.1.now c.cut_name.ensures (sym c.in-None.ensures)
