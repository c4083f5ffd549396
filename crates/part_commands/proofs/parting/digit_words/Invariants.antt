use Rattle.std.proofs.Common.{◌≡◌}
use Rattle.part_commands.specs.Parting.{digit_words}
use Rattle.part_commands.proofs.parting.digit_words.Given as goal

abbrev pub invariant-loop-place : goal.invariant-loop-place
invariant-loop-place l = l.text.items ≡ digit_words l.levels.number l.part l.place
