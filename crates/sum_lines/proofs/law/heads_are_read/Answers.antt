use Rattle.sum_lines.proofs.SumLines.{heads_read}
use Rattle.sum_lines.proofs.law.heads_are_read.Goals as goal

pub returns : goal.returns
returns c = heads_read
