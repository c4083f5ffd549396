use Rattle.std.proofs.Common.{◌<◌, ◌≤◌, ℕ, length, arith, ap, subst}
use Rattle.stn_model.specs.declared.start.Start.{Start}
use Rattle.stn_model.specs.Plant.{end_of}
use Rattle.stn_model.specs.Violations.{start_at}
use Rattle.plan_sim.proofs.Placed.{row_there}
use Rattle.plan_violations.specs.Meeting.{IsLeastIn}
use Rattle.plan_violations.proofs.Meeting.{met_in_table}
use Rattle.plan_violations.proofs.busy.met_of.Goals as goal

pub least_in-requires-clause-there : goal.least_in-requires-clause-there
least_in-requires-clause-there c = row_there c.args.cells.now (length c.args.plant.now.units) c.args.width c.args.start.now.unit c.requires.size (omega arith)

pub returns : goal.returns
returns c =
    let plant = c.args.plant.now in
    let plan = c.args.plan.now in
    let last : IsLeastIn c.args.cells.now c.args.width c.args.start.now.unit c.args.start.now.period (end_of plant c.args.start.now) (length plan) c.least_in.result =
    subst (λ (e : ℕ). IsLeastIn c.args.cells.now c.args.width c.args.start.now.unit c.args.start.now.period e (length plan) c.least_in.result) c.end-last.ensures c.least_in.ensures in
    let least : IsLeastIn c.args.cells.now c.args.width (start_at plan c.args.place).unit (start_at plan c.args.place).period (end_of plant (start_at plan c.args.place)) (length plan) c.least_in.result =
    subst (λ (s : Start). IsLeastIn c.args.cells.now c.args.width s.unit s.period (end_of plant s) (length plan) c.least_in.result) c.requires.is last in
    let unit : (start_at plan c.args.place).unit < length plant.units = omega (arith, ap (λ (s : Start). s.unit) c.requires.is) in
    let inside : end_of plant (start_at plan c.args.place) ≤ c.args.width = omega (arith, c.end-last.ensures, ap (end_of plant) c.requires.is) in
    met_in_table plant plan c.args.width c.args.cells.now c.args.place c.least_in.result c.requires.there unit inside c.requires.table least
