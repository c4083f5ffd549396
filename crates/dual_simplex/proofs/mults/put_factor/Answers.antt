use Rattle.std.proofs.Common.{◌+◌, arith}
use Rattle.dual_simplex.proofs.Fitting.{fit_more, fit_put}
use Rattle.dual_simplex.proofs.mults.put_factor.Goals as goal

pub returns-then-factor-ne0-clause-fit : goal.returns-then-factor-ne0-clause-fit
returns-then-factor-ne0-clause-fit c =
    fit_put c.args.row c.args.factor c.args.mults.now.items c.put_last.new.mults.items c.if-factor-ne0.true c.requires.factor c.requires.fit c.put_last.ensures.put

pub returns-else-factor-ne0-clause-fit : goal.returns-else-factor-ne0-clause-fit
returns-else-factor-ne0-clause-fit c = fit_more c.args.row (c.args.row + 1) 0 c.args.mults.now.items (omega arith) c.requires.fit
