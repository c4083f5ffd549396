use Rattle.std.proofs.Common.{arith}
use Rattle.derivation_lines.specs.Tail.{factor_line}
use Rattle.derivation_lines.proofs.LineTexts.{put_next, put_nothing}
use Rattle.derivation_lines.proofs.printing.put_factors.Goals as goal

pub loop-factor-init : goal.loop-factor-init
loop-factor-init c = put_nothing c.args.text.now.items

pub loop-factor-preserved : goal.loop-factor-preserved
loop-factor-preserved c = put_next factor_line c.args.text.now.items c.loop-factor.text.items c.put_factor.new.text.items c.args.factors.now c.loop-factor.factor-index _ c.loop-factor.invariant c.in_ok-put_factor.ensures (omega arith)
