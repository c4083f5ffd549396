use Rattle.plant_make.proofs.KeyByKey.{task_chain}
use Rattle.plant_make.proofs.tasks.TaskRow.put_keys.Goals as goal

pub put_rows-requires-clause-fits : goal.put_rows-requires-clause-fits
put_rows-requires-clause-fits c = λ k d within. (c.requires.fits.quantum.0, c.requires.fits.input k d within)

pub put_rows-requires-2-clause-fits : goal.put_rows-requires-2-clause-fits
put_rows-requires-2-clause-fits c = λ k d within. (c.requires.fits.quantum.0, c.requires.fits.output k d within)

pub returns : goal.returns
returns c =
    task_chain c.args.plant.now c.args.self.now _ _ _ _ _ _ _ _ _ _ _ _
    c.in_ok-put_rows-3.ensures c.in_ok-put_rows-2.ensures c.in_ok-put_rows.ensures c.in_ok-put.ensures c.in_ok-put_colour.ensures c.in_ok-put_label.ensures c.in_ok-put_name.ensures
    c.as_slice.ensures c.as_slice-2.ensures c.as_slice-3.ensures c.short_value.ensures
