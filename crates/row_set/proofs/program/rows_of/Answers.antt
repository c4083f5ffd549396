-- One family after another.
use Rattle.std.proofs.Common.{◌∙◌}
use Rattle.row_set.specs.PlantProgram.{plant_rows}
use Rattle.balance_rows.specs.StockRows.{stock_rows}
use Rattle.utility_rows.specs.LoadRows.{load_rows}
use Rattle.unit_rows.specs.Busy.{busy_rows}
use Rattle.unit_rows.specs.Gaps.{gap_rows}
use Rattle.unit_rows.specs.Firsts.{first_rows}
use Rattle.row_set.proofs.Bounds.{joined}
use Rattle.row_set.proofs.program.rows_of.Goals as goal

pub returns : goal.returns
unfolding plant_rows
returns c =
    let plant = c.args.plant.now in
    c.from_vec.ensures
    ∙ joined c.new-rows.result.items c.add_busy.new.into.items c.add_rows.new.into.items c.add_rows-2.new.into.items c.add_gaps.new.into.items c.add_firsts.new.into.items
    (busy_rows plant) (stock_rows plant) (load_rows plant) (gap_rows plant) (first_rows plant)
    c.new-rows.ensures.items c.in_ok-add_busy.ensures.ok c.in_ok-add_rows.ensures.ok c.in_ok-add_rows-2.ensures.ok c.in_ok-add_gaps.ensures.ok c.in_ok-add_firsts.ensures.ok
