-- Without a better certificate it is scale 1 without multipliers.
use Rattle.std.proofs.Common.{List, sym, subst}
use Rattle.row_kit.specs.Area.{present}
use Rattle.dual_bound.specs.declared.cert.Mult.{Mult}
use Rattle.dual_bound.specs.Plain.{IsNoWorseThanPlain}
use Rattle.dual_simplex.specs.Solved.{HasTotal}
use Rattle.dual_bound.proofs.Plain.{plain_some, plain_within}
use Rattle.dual_simplex.proofs.solving.solve_dual.Goals as goal

pub returns-else-is_below-clause-total : goal.returns-else-is_below-clause-total
returns-else-is_below-clause-total c =
    let program = c.args.program.now in
    let domains = present c.args.area.now in
    subst (λ (ms : List Mult). HasTotal program domains (record { scale = 1; mults = ms })) (sym c.new.ensures) (plain_some program domains c.requires.open_)

pub returns-else-is_below-clause-cap : goal.returns-else-is_below-clause-cap
returns-else-is_below-clause-cap c =
    let program = c.args.program.now in
    let domains = present c.args.area.now in
    subst (λ (ms : List Mult). IsNoWorseThanPlain program domains (record { scale = 1; mults = ms })) (sym c.new.ensures) (plain_within program domains c.requires.open_)
