-- None on a unit that no batch held before; else one more slot, and all.
use Rattle.std.proofs.Common.{◌≡◌, ◌++◌, None, append-nil, sym, ap, ◌∙◌, arith}
use Rattle.std.proofs.lemmas.List.{take_all}
use Rattle.stn_model.specs.Plant.{unit_at}
use Rattle.time_grid.proofs.SlotList.{grid-are}
use Rattle.unit_rows.specs.Firsts.{firsts_among, unit_first_rows}
use Rattle.unit_rows.proofs.FirstRows.{no_firsts, none_from}
use Rattle.unit_rows.proofs.firsts.push_unit_rows.Goals as goal

pub returns-then-is_none-clause-ok : goal.returns-then-is_none-clause-ok
returns-then-is_none-clause-ok c =
    let free : (unit_at c.args.plant.now c.args.unit).last ≡ None = sym c.last_of.ensures ∙ none_from c.last_of.result c.is_none.result c.is_none.ensures c.if-is_none.true in
    sym (ap (λ rows. c.args.into.now.items ++ rows) (no_firsts c.args.plant.now c.args.unit free) ∙ append-nil c.args.into.now.items)

pub is_early_on-requires-clause-run : goal.is_early_on-requires-clause-run
is_early_on-requires-clause-run c = (grid-are c.args.plant.now c.args.grid.now c.loop-place.place c.run_period-slot.result c.requires.grid (omega arith) c.run_period-slot.ensures).run

pub first_row-requires-clause-run : goal.first_row-requires-clause-run
first_row-requires-clause-run c = (grid-are c.args.plant.now c.args.grid.now c.loop-place.place c.run_period-slot.result c.requires.grid (omega arith) c.run_period-slot.ensures).run

pub returns-clause-ok : goal.returns-clause-ok
unfolding unit_first_rows
returns-clause-ok c =
    c.loop-place.invariant
    ∙ ap (λ grid. c.args.into.now.items ++ firsts_among c.args.plant.now c.args.unit grid) (take_all c.loop-place.place c.args.grid.now (omega arith) ∙ c.requires.grid)
