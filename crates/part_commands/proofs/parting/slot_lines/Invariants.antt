use Rattle.std.proofs.Common.{◌≡◌}
use Rattle.part_commands.specs.Parting.{slot_lines}
use Rattle.part_commands.proofs.parting.slot_lines.Given as goal

abbrev pub invariant-loop-place : goal.invariant-loop-place
invariant-loop-place l = l.lines.items ≡ slot_lines l.plant l.place
