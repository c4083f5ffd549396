use Rattle.std.proofs.Common.{true, [], arith}
use Rattle.log_lines.proofs.NumberTexts.{reads_none, reads_one, reads_longer, wide_same}
use Rattle.log_lines.proofs.numbers.signed.Goals as goal

pub returns-then-is_empty : goal.returns-then-is_empty
returns-then-is_empty c = rw (wide_same c.in-Some.number c.in-Some.ensures.short) (reads_one c.in-Some.ensures (grind arith))

pub returns-else-is_empty : goal.returns-else-is_empty
returns-else-is_empty c = reads_longer c.in-Some.ensures (grind arith)

pub returns-in-None : goal.returns-in-None
returns-in-None c = reads_none true [] c.args.text.now c.in-None.ensures
