use Rattle.std.proofs.Common.{◌≡◌, ◌++◌, List, sym, subst}
use Rattle.std.specs.Prelude.{OnOk}
use Rattle.plan_sim.specs.Tables.{IsStockTable, IsLoadTable}
use Rattle.plan_violations.specs.declared.breach.Breach.{Breach}
use Rattle.plan_violations.proofs.Shown.{all_same}
use Rattle.plan_violations.proofs.listing.list_course.Goals as goal

pub returns : goal.returns
returns c =
    let stocks : IsStockTable c.args.plant.now c.args.plan.now c.deref.result.now = subst (IsStockTable c.args.plant.now c.args.plan.now) (sym c.deref.ensures.value) c.in_ok-stocks.ensures.table in
    let loads : IsLoadTable c.args.plant.now c.args.plan.now c.deref-2.result.now = subst (IsLoadTable c.args.plant.now c.args.plan.now) (sym c.deref-2.ensures.value) c.in_ok-loads.ensures.table in
    subst (λ (shown : List Breach). OnOk c.list_amounts.result (c.list_amounts.new.found.items ≡ c.args.found.now.items ++ shown))
    (all_same c.args.plant.now c.args.plan.now c.deref.result.now c.deref-2.result.now stocks loads) c.list_amounts.ensures
