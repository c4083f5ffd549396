-- What follows a word is shorter.
use Rattle.std.proofs.Common.{length}
use Rattle.derivation_lines.proofs.numbers.+read_numbers.Given as goal

abbrev pub decreases-read_numbers : goal.decreases-read_numbers
decreases-read_numbers l = length l.text.now
