-- Each line is the line that counts nothing.
use Rattle.dual_bound.proofs.LineSums.{bare_within}
use Rattle.dual_bound.proofs.totals.many_gains.Goals as goal

pub gains_in-requires-clause-bare : goal.gains_in-requires-clause-bare
gains_in-requires-clause-bare c = bare_within 4096
