use Rattle.std.proofs.Common.{lit≤}
use Rattle.dual_bound.proofs.Plain.{fit_some}
use Rattle.dual_simplex.proofs.workspace.Workspace.ray.Goals as goal

pub returns-clause-total : goal.returns-clause-total
returns-clause-total c = fit_some c.args.program.now 0 c.in_ok-mults.mults (lit≤ tt) c.in_ok-mults.ensures.few c.in_ok-mults.ensures.fit
