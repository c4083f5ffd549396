use Rattle.std.proofs.Common.{inr}
use Rattle.least_horizon.specs.LogNames.{logs_in, OthersStayBelow}
use Rattle.horizon_commands.proofs.Horizons.{named-least, sought_is, found_stay}
use Rattle.horizon_commands.proofs.seeking.trace_plant.Goals as goal

pub found-requires : goal.found-requires
found-requires g c = named-least c.args.plant.now c.in-Ok.said c.requires.sound c.in-Ok.ensures.least.right

pub returns-in_ok-found-in-Ok-clause-left : goal.returns-in_ok-found-in-Ok-clause-left
returns-in_ok-found-in-Ok-clause-left g c = inr (record { said = c.in-Ok.said; least = c.in-Ok.ensures.least; others = c.in-Ok.ensures.others })

pub returns-in_err-found-in-Ok-clause-left : goal.returns-in_err-found-in-Ok-clause-left
returns-in_err-found-in-Ok-clause-left g c = inr (record { said = c.in-Ok.said; least = c.in-Ok.ensures.least; others = c.in-Ok.ensures.others })

pub returns-in_ok-found-in-Ok-clause-others : goal.returns-in_ok-found-in-Ok-clause-others
returns-in_ok-found-in-Ok-clause-others g c =
    found_stay c.args.plant.now c.in-Ok.said c.args.stem.now (g.F.Shelf.files c.args.files.now) (g.F.Shelf.files c.least_to.new.files) c.requires.sound c.in-Ok.ensures.least.right c.in-Ok.ensures.others

pub returns-in_err-found-in-Ok-clause-others : goal.returns-in_err-found-in-Ok-clause-others
returns-in_err-found-in-Ok-clause-others g c =
    found_stay c.args.plant.now c.in-Ok.said c.args.stem.now (g.F.Shelf.files c.args.files.now) (g.F.Shelf.files c.least_to.new.files) c.requires.sound c.in-Ok.ensures.least.right c.in-Ok.ensures.others

pub returns-in_ok-found-in-Ok-clause-answer : goal.returns-in_ok-found-in-Ok-clause-answer
returns-in_ok-found-in-Ok-clause-answer g c =
    sought_is c.args.plant.now c.args.budget.boxes (logs_in c.args.stem.now (g.F.Shelf.files c.least_to.new.files))
    (λ horizon. OthersStayBelow c.args.stem.now horizon (g.F.Shelf.files c.args.files.now) (g.F.Shelf.files c.least_to.new.files)) c.in-Ok.said c.in_ok-found-in-Ok.field-0 c.requires.sound
    c.in-Ok.ensures.least c.in-Ok.ensures.others c.in_money.ensures c.in_ok-found-in-Ok.ensures
