use Rattle.std.proofs.Common.{◌≡◌, ◌<◌, ◌≤◌, ℕ, length, arith, ap, subst, ◌∙◌, min}
use Rattle.stn_model.specs.declared.start.Start.{Start}
use Rattle.stn_model.specs.Plant.{end_of}
use Rattle.stn_model.specs.Violations.{start_at}
use Rattle.plan_sim.specs.Moves.{cell}
use Rattle.plan_sim.proofs.Placed.{row_there}
use Rattle.plan_violations.specs.Meeting.{put_in}
use Rattle.plan_violations.proofs.Meeting.{table_same, table_more}
use Rattle.plan_violations.proofs.busy.occupy_by.Goals as goal

pub set_row-requires-clause-there : goal.set_row-requires-clause-there
set_row-requires-clause-there c = row_there c.args.cells.now (length c.args.plant.now.units) c.args.width c.args.start.now.unit c.requires.size (omega arith)

pub returns-then-len-start-clause-table : goal.returns-then-len-start-clause-table
returns-then-len-start-clause-table c =
    let out : length c.args.plant.now.units ≤ (start_at c.args.plan.now c.args.place).unit = omega (arith, ap (λ (s : Start). s.unit) c.requires.is) in
    table_same c.args.plant.now c.args.plan.now c.args.width c.args.place c.args.cells.now out c.requires.table

pub returns-clause-table : goal.returns-clause-table
returns-clause-table c =
    let last : c.last_in-last.result ≡ min (end_of c.args.plant.now (start_at c.args.plan.now c.args.place)) c.args.width =
    c.last_in-last.ensures ∙ ap (λ (s : Start). min (end_of c.args.plant.now s) c.args.width) c.requires.is in
    table_more c.args.plant.now c.args.plan.now c.args.width c.args.place c.last_in-last.result c.args.cells.now c.set_row.new.cells c.requires.there last
    (subst (λ (s : Start). (r k : ℕ) → k < c.args.width → cell c.set_row.new.cells c.args.width r k ≡ put_in c.args.cells.now c.args.width s.unit s.period c.last_in-last.result c.args.place r k) c.requires.is c.set_row.ensures.put)
    c.requires.table
