use Rattle.toml.proofs.Views.{table_get}
use Rattle.plant_text.proofs.find.lookup.Goals as goal

pub returns : goal.returns
returns c =
    let found = table_get c.get.result c.word.result.now c.args.table.now.entries c.get.ensures.value in
    rw (← c.word.ensures) found
