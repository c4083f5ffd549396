-- What is told is told of the end as of the part.
use Rattle.std.proofs.Common.{◌≡◌, length, sym, subst, IfOk, IfSome}
use Rattle.time_grid.specs.Slots.{slots}
use Rattle.branch_tree.specs.declared.ended.Ended.{Ended}
use Rattle.plan_told.specs.Telling.{IsTold}
use Rattle.stn_solve.proofs.telling.told_given.Goals as goal

pub told_of-requires-clause-places : goal.told_of-requires-clause-places
told_of-requires-clause-places c =
    subst (λ (own : Ended). IfSome own.best (λ found. length found.point ≡ length (slots c.args.plant.now))) (sym c.in_ok-own.ensures) c.requires.places

pub returns : goal.returns
returns c = subst (λ (own : Ended). IfOk c.told_of.result (IsTold c.args.plant.now own)) c.in_ok-own.ensures c.told_of.ensures
