use Rattle.std.proofs.Common.{arith, sym}
use Rattle.sum_lines.proofs.LineTexts.{put_nothing, put_sum_more}
use Rattle.sum_lines.proofs.printing.put_sums.Goals as goal

pub loop-sum-init : goal.loop-sum-init
loop-sum-init c = put_nothing c.args.text.now.items

pub loop-sum-preserved : goal.loop-sum-preserved
loop-sum-preserved c = put_sum_more c.args.text.now.items c.loop-sum.text.items c.put_sum.new.text.items c.args.sums.now c.loop-sum.sum-index c.sum-item.result c.loop-sum.invariant c.in_ok-put_sum.ensures (omega arith) (sym c.sum-item.is)
