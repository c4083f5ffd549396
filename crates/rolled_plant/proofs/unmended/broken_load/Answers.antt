use Rattle.std.proofs.Common.{sym, subst}
use Rattle.plan_sim.specs.Tables.{IsLoadTable}
use Rattle.rolled_plant.proofs.Mending.{mended_first, found_before}
use Rattle.rolled_plant.proofs.unmended.broken_load.Goals as goal

pub returns : goal.returns
returns c =
    let plant = c.args.plant.now in
    let before = c.args.before.now in
    let only = mended_first plant before c.args.period c.args.violation c.requires.first c.requires.mended in
    let table : IsLoadTable plant before c.deref.result.now = subst (IsLoadTable plant before) (sym c.deref.ensures.value) c.in_ok-loads.ensures.table in
    found_before plant before c.args.period c.requires.within c.requires.earlier only c.deref.result.now table c.first_load-found.result c.first_load-found.ensures
