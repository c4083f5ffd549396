use Rattle.std.proofs.lemmas.Result.{err_from_is_err_and}
use Rattle.plant_text.specs.Tables.{outage_tests, outage_fields}
use Rattle.plant_text.proofs.Faults.{stops_after, stops_at}
use Rattle.plant_text.proofs.tables.outage.OutageRow.read.Goals as goal

pub returns-in_err-unit : goal.returns-in_err-unit
unfolding outage_tests outage_fields
returns-in_err-unit c =
    let p = err_from_is_err_and c.from_residual-in_err-unit.result c.from_residual-in_err-unit.ensures.1 in
    rw (p.1, p.2) (rw (← c.in_ok-table.ensures.ok.1) (stops_at c.in_err-unit.field-0.0 _ _ (stops_after c.in_err-unit.field-0.0 _ _ c.in_ok-table.ensures.ok.0 (stops_at c.in_err-unit.field-0.0 _ _ c.in_err-unit.ensures))))

pub returns-in_err-from : goal.returns-in_err-from
unfolding outage_tests outage_fields
returns-in_err-from c =
    let p = err_from_is_err_and c.from_residual-in_err-from.result c.from_residual-in_err-from.ensures.1 in
    rw (p.1, p.2) (rw (← c.saturating_sub.ensures, ← c.in_ok-table.ensures.ok.1) (stops_at c.in_err-from.field-0.0 _ _ (stops_after c.in_err-from.field-0.0 _ _ c.in_ok-table.ensures.ok.0 (stops_after c.in_err-from.field-0.0 _ _ c.in_ok-unit.ensures.0 (stops_at c.in_err-from.field-0.0 _ _ c.in_err-from.ensures)))))

pub returns-in_err-to : goal.returns-in_err-to
unfolding outage_tests outage_fields
returns-in_err-to c =
    let p = err_from_is_err_and c.from_residual-in_err-to.result c.from_residual-in_err-to.ensures.1 in
    rw (p.1, p.2) (rw (← c.saturating_sub.ensures, ← c.in_ok-table.ensures.ok.1) (stops_at c.in_err-to.field-0.0 _ _ (stops_after c.in_err-to.field-0.0 _ _ c.in_ok-table.ensures.ok.0 (stops_after c.in_err-to.field-0.0 _ _ c.in_ok-unit.ensures.0 (stops_after c.in_err-to.field-0.0 _ _ c.in_ok-from.ensures.0 (stops_at c.in_err-to.field-0.0 _ _ c.in_err-to.ensures))))))
