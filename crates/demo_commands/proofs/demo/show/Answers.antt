use Rattle.demo_commands.proofs.DemoLemmas.{shown}
use Rattle.demo_commands.proofs.demo.show.Goals as goal

pub returns-in-Ok : goal.returns-in-Ok
returns-in-Ok g c =
    shown c.args.seed c.in_ok-plant.plant c.in-Ok.outcome c.status_of-status.result c.in_ok-text-in-Ok.text.items c.in_ok-line-in-Ok.line.items
    c.in_ok-plant.ensures.made c.in-Ok.ensures.outcome c.status_of-status.ensures.value (c.in_ok-line-in-Ok.ensures c.in-Ok.outcome c.in-Ok.ensures.proof) c.in_ok-text-in-Ok.ensures
