use Rattle.std.specs.Prelude.{None}
use Rattle.horizon_commands.proofs.Horizons.{named-least, sought}
use Rattle.horizon_commands.proofs.seeking.seek_plant.Goals as goal

pub found-requires : goal.found-requires
found-requires g c = named-least c.args.plant.now c.in_ok-said.said c.requires c.in_ok-said.ensures.least.right

pub returns : goal.returns
returns g c = sought c.args.plant.now c.args.budget.boxes (λ _. None) (λ _. Unit {0}) c.in_ok-said.said c.found.result c.requires c.in_ok-said.ensures.least tt c.in_money.ensures c.found.ensures
