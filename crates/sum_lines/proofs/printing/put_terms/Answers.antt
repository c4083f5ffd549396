use Rattle.std.proofs.Common.{arith, pos}
use Rattle.sum_lines.proofs.LineTexts.{put_nothing, put_term_more}
use Rattle.sum_lines.proofs.printing.put_terms.Goals as goal

pub loop-term-init : goal.loop-term-init
loop-term-init c = put_nothing c.args.text.now.items

pub loop-term-preserved : goal.loop-term-preserved
loop-term-preserved c = put_term_more c.args.text.now.items c.loop-term.text.items c.put_term.new.text.items c.args.terms.now c.loop-term.term-index (record { slot = 0; fixed = pos 0; per = pos 0 }) c.loop-term.invariant c.in_ok-put_term.ensures (omega arith)
