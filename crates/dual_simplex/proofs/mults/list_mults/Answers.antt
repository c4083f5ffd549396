use Rattle.std.proofs.Common.{length, arith}
use Rattle.dual_simplex.proofs.Fitting.{fit_more}
use Rattle.dual_simplex.proofs.mults.list_mults.Goals as goal

pub returns-clause-fit : goal.returns-clause-fit
returns-clause-fit c =
    fit_more c.loop-row.row (length c.args.program.now.rows) 0 c.loop-row.mults.items (omega arith) c.loop-row.invariant.fit
