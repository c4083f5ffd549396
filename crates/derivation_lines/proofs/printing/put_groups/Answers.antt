use Rattle.std.proofs.Common.{arith}
use Rattle.derivation_lines.specs.Tail.{group_line}
use Rattle.derivation_lines.proofs.LineTexts.{put_next, put_nothing}
use Rattle.derivation_lines.proofs.printing.put_groups.Goals as goal

pub loop-group-init : goal.loop-group-init
loop-group-init c = put_nothing c.args.text.now.items

pub loop-group-preserved : goal.loop-group-preserved
loop-group-preserved c = put_next group_line c.args.text.now.items c.loop-group.text.items c.put_group.new.text.items c.args.groups.now c.loop-group.group-index _ c.loop-group.invariant c.in_ok-put_group.ensures (omega arith)
