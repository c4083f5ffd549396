use Rattle.std.proofs.Common.{◌≡◌}
use Rattle.part_commands.specs.Parting.{part_lines}
use Rattle.part_commands.proofs.parting.part_lines.Given as goal

abbrev pub invariant-loop-part : goal.invariant-loop-part
invariant-loop-part l = l.lines.items ≡ part_lines l.levels.number l.part
