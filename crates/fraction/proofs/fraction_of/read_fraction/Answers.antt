use Rattle.std.proofs.Common.{rules}
use Rattle.fraction.specs.Fractions.{fraction_in}
use Rattle.fraction.proofs.fraction_of.read_fraction.Goals as goal

pub returns-in_err-over : goal.returns-in_err-over
unfolding fraction_in
returns-in_err-over c = search rules

pub returns-in_err-under : goal.returns-in_err-under
unfolding fraction_in
returns-in_err-under c = search rules

pub returns : goal.returns
unfolding fraction_in
returns c = search rules
