use Rattle.std.proofs.Common.{arith}
use Rattle.log_lines.proofs.LineTexts.{name_cut}
use Rattle.log_lines.proofs.read.cut_claim.Goals as goal

pub returns-in-32 : goal.returns-in-32
returns-in-32 c =
    rw (c.split_at.ensures.front, c.split_at.ensures.back)
    (name_cut c.args.bytes.now c.args.rest.now c.cut_word.result.0.now c.cut_word.result.1.now c.requires (omega arith) (omega arith) c.cut_word.ensures)
