use Rattle.std.proofs.Common.{arith, sym}
use Rattle.derivation_lines.proofs.LineTexts.{put_derivation_more, put_nothing}
use Rattle.derivation_lines.proofs.printing.put_all.Goals as goal

pub loop-derivation-init : goal.loop-derivation-init
loop-derivation-init c = put_nothing c.args.text.now.items

pub loop-derivation-preserved : goal.loop-derivation-preserved
loop-derivation-preserved c =
    put_derivation_more c.args.text.now.items c.loop-derivation.text.items c.put_derivation.new.text.items c.args.derivations.now c.loop-derivation.derivation-index c.derivation-item.result c.loop-derivation.invariant c.in_ok-put_derivation.ensures (omega arith) (sym c.derivation-item.is)
