use Rattle.part_commands.specs.Parting.{part_lines}
use Rattle.part_commands.proofs.Ranges.{part_more}
use Rattle.part_commands.proofs.parting.part_lines.Goals as goal

pub loop-part-init : goal.loop-part-init
unfolding part_lines
loop-part-init c = c.new-lines.ensures.items

pub loop-part-preserved : goal.loop-part-preserved
loop-part-preserved c =
    let more = part_more c.args.levels.number c.loop-part.part in
    cc (more, c.in_ok-extend_from_slice.ensures.items, c.as_slice.ensures.value, c.in_ok-line.ensures, c.loop-part.invariant)
