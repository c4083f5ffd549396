use Rattle.std.proofs.Common.{sym}
use Rattle.std.specs.Prelude.{codes}
use Rattle.sum_lines.proofs.LineWords.{named_read, text_none}
use Rattle.sum_lines.proofs.reading.read_head_line.Goals as goal

pub returns-then-is_sum : goal.returns-then-is_sum
returns-then-is_sum c = record { is = named_read c.args.bytes.now c.cut_word.result.0.now c.cut_word.result.1.now (codes "sum") c.sum_line.result c.cut_word.ensures (sym c.if-is_sum.ensures) c.sum_line.ensures }

pub returns-then-is_term : goal.returns-then-is_term
returns-then-is_term c = record { is = named_read c.args.bytes.now c.cut_word.result.0.now c.cut_word.result.1.now (codes "term") c.term_line.result c.cut_word.ensures (sym c.if-is_term.ensures) c.term_line.ensures }

pub returns-else-is_term : goal.returns-else-is_term
returns-else-is_term c = record { is = text_none c.args.bytes.now c.cut_word.result.0.now c.cut_word.result.1.now c.cut_word.ensures (sym c.if-is_sum.ensures) (sym c.if-is_term.ensures) }
