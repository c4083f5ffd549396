use Rattle.std.proofs.Common.{arith}
use Rattle.std.proofs.lemmas.Bool.Decides.{nat_tests}
use Rattle.plant_labels.specs.Clock.{next_day}
use Rattle.plant_labels.proofs.clock.next_day.Goals as goal

pub returns-then-moment-days_in_month : goal.returns-then-moment-days_in_month
unfolding next_day
returns-then-moment-days_in_month c = grind (arith, nat_tests)

pub returns-then-moment-lt12 : goal.returns-then-moment-lt12
unfolding next_day
returns-then-moment-lt12 c = grind (arith, nat_tests)

pub returns-else-moment-lt12 : goal.returns-else-moment-lt12
unfolding next_day
returns-else-moment-lt12 c = grind (arith, nat_tests)
