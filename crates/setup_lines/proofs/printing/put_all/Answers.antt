use Rattle.std.proofs.Common.{arith}
use Rattle.setup_lines.proofs.Lines.{put_next, put_nothing}
use Rattle.setup_lines.proofs.printing.put_all.Goals as goal

pub loop-unit-init : goal.loop-unit-init
loop-unit-init c = put_nothing c.args.text.now.items

pub loop-unit-preserved : goal.loop-unit-preserved
loop-unit-preserved c =
    put_next c.args.text.now.items c.loop-unit.text.items c.put_line.new.text.items c.args.units.now c.loop-unit.unit-index c.loop-unit.invariant c.in_ok-put_line.ensures (omega arith)
