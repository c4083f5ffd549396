use Rattle.std.proofs.Common.{◌≡◌, length, reverse}
use Rattle.log_lines.specs.Grammar.{after_part}
use Rattle.log_lines.proofs.grammar.drop_rights.Given as goal

abbrev pub invariant-rights : goal.invariant-rights
invariant-rights l = after_part (reverse l.sides.items) ≡ after_part (reverse l.initial.sides.items)

abbrev pub decreases-rights : goal.decreases-rights
decreases-rights l = length l.sides.items
