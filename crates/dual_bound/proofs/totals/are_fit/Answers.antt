-- At the end the rest is empty, so all were fit.
use Rattle.std.proofs.Common.{◌≡◌, ◌∙◌, sym, true}
use Rattle.std.proofs.lemmas.List.{at_drop_all}
use Rattle.dual_bound.specs.Total.{are_fit}
use Rattle.dual_bound.proofs.Fit.{fit_all}
use Rattle.dual_bound.proofs.totals.are_fit.Goals as goal

pub returns-clause-fit : goal.returns-clause-fit
returns-clause-fit c = λ _.
    let whole : are_fit c.args.rows 0 c.args.mults.now ≡ true =
    sym c.loop-mult.invariant.whole ∙ at_drop_all (are_fit c.args.rows c.loop-mult.least) c.args.mults.now c.loop-mult.mult-index c.loop-mult-test.false in
    fit_all c.args.rows 0 c.args.mults.now whole
