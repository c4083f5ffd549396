use Rattle.std.proofs.Common.{sym}
use Rattle.log_lines.proofs.LineTexts.{name_one}
use Rattle.log_lines.proofs.read.cut_name.Goals as goal

pub returns-else-is_claim : goal.returns-else-is_claim
returns-else-is_claim c = name_one c.args.bytes.now c.cut_word.result.0.now c.cut_word.result.1.now c.cut_word.ensures (sym c.if-is_claim.ensures)
