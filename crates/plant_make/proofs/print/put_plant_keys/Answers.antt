use Rattle.std.proofs.Common.{ap, ◌∙◌}
use Rattle.plant_make.specs.Entries.{number}
use Rattle.plant_make.proofs.KeyByKey.{plant_chain}
use Rattle.plant_make.proofs.print.put_plant_keys.Goals as goal

pub returns : goal.returns
returns c =
    plant_chain c.args.plant.now _ _ _ _ _ _ _ _ _ _ _ _ _ _ _
    c.in_ok-put_rows-9.ensures c.in_ok-put_rows-8.ensures c.in_ok-put_rows-7.ensures c.in_ok-put_rows-6.ensures c.in_ok-put_rows-5.ensures c.in_ok-put_rows-4.ensures c.in_ok-put_rows-3.ensures c.in_ok-put_rows-2.ensures c.in_ok-put_rows.ensures
    c.in_ok-put_calendar.ensures c.in_ok-put-2.ensures c.in_ok-put.ensures (c.short_value.ensures ∙ ap number c.version_of.ensures) c.short_value-2.ensures
