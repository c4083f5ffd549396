use Rattle.std.proofs.Common.{refl}
use Rattle.std.proofs.lemmas.Result.{err_from_is_err_and}
use Rattle.plant_text.specs.Tables.{gap_tests, gap_of, gap_fields}
use Rattle.plant_text.proofs.Faults.{passes, nothing, stops_after, stops_at}
use Rattle.plant_text.proofs.tables.gap.GapRow.read.Goals as goal

pub returns-in_err-unit : goal.returns-in_err-unit
unfolding gap_tests gap_fields
returns-in_err-unit c =
    let p = err_from_is_err_and c.from_residual-in_err-unit.result c.from_residual-in_err-unit.ensures.1 in
    rw (p.1, p.2) (rw (← c.least_gap-least.ensures, ← c.longest_gap-longest.ensures, ← c.in_ok-table.ensures.ok.1) (stops_after c.in_err-unit.field-0.0 _ _ c.in_ok-table.ensures.ok.0 (stops_at c.in_err-unit.field-0.0 _ _ c.in_err-unit.ensures)))

pub returns-in_err-from : goal.returns-in_err-from
unfolding gap_tests gap_fields
returns-in_err-from c =
    let p = err_from_is_err_and c.from_residual-in_err-from.result c.from_residual-in_err-from.ensures.1 in
    rw (p.1, p.2) (rw (← c.least_gap-least.ensures, ← c.longest_gap-longest.ensures, ← c.in_ok-table.ensures.ok.1) (stops_after c.in_err-from.field-0.0 _ _ c.in_ok-table.ensures.ok.0 (stops_after c.in_err-from.field-0.0 _ _ c.in_ok-unit.ensures.0 (stops_at c.in_err-from.field-0.0 _ _ c.in_err-from.ensures))))

pub returns-in_err-to : goal.returns-in_err-to
unfolding gap_tests gap_fields
returns-in_err-to c =
    let p = err_from_is_err_and c.from_residual-in_err-to.result c.from_residual-in_err-to.ensures.1 in
    rw (p.1, p.2) (rw (← c.least_gap-least.ensures, ← c.longest_gap-longest.ensures, ← c.in_ok-table.ensures.ok.1) (stops_after c.in_err-to.field-0.0 _ _ c.in_ok-table.ensures.ok.0 (stops_after c.in_err-to.field-0.0 _ _ c.in_ok-unit.ensures.0 (stops_after c.in_err-to.field-0.0 _ _ c.in_ok-from.ensures.0 (stops_at c.in_err-to.field-0.0 _ _ c.in_err-to.ensures)))))

pub returns-in_err-periods : goal.returns-in_err-periods
unfolding gap_tests gap_fields
returns-in_err-periods c =
    let p = err_from_is_err_and c.from_residual-in_err-periods.result c.from_residual-in_err-periods.ensures.1 in
    rw (p.1, p.2) (rw (← c.least_gap-least.ensures, ← c.longest_gap-longest.ensures, ← c.in_ok-table.ensures.ok.1) (stops_after c.in_err-periods.field-0.0 _ _ c.in_ok-table.ensures.ok.0 (stops_after c.in_err-periods.field-0.0 _ _ c.in_ok-unit.ensures.0 (stops_after c.in_err-periods.field-0.0 _ _ c.in_ok-from.ensures.0 (stops_after c.in_err-periods.field-0.0 _ _ c.in_ok-to.ensures.0 (stops_at c.in_err-periods.field-0.0 _ _ c.in_err-periods.ensures))))))

pub returns-in_err-cost : goal.returns-in_err-cost
unfolding gap_tests gap_fields
returns-in_err-cost c =
    let p = err_from_is_err_and c.from_residual-in_err-cost.result c.from_residual-in_err-cost.ensures.1 in
    rw (p.1, p.2) (rw (← c.least_gap-least.ensures, ← c.longest_gap-longest.ensures, ← c.in_ok-table.ensures.ok.1) (stops_after c.in_err-cost.field-0.0 _ _ c.in_ok-table.ensures.ok.0 (stops_after c.in_err-cost.field-0.0 _ _ c.in_ok-unit.ensures.0 (stops_after c.in_err-cost.field-0.0 _ _ c.in_ok-from.ensures.0 (stops_after c.in_err-cost.field-0.0 _ _ c.in_ok-to.ensures.0 (stops_after c.in_err-cost.field-0.0 _ _ c.in_ok-periods.ensures.0 (stops_at c.in_err-cost.field-0.0 _ _ c.in_err-cost.ensures)))))))

pub returns : goal.returns
unfolding gap_tests gap_of gap_fields
returns c =
    rw (← c.least_gap-least.ensures, ← c.longest_gap-longest.ensures, ← c.in_ok-table.ensures.ok.1) (
      passes _ _ c.in_ok-table.ensures.ok.0 (passes _ _ c.in_ok-unit.ensures.0 (passes _ _ c.in_ok-from.ensures.0 (passes _ _ c.in_ok-to.ensures.0 (passes _ _ c.in_ok-periods.ensures.0 (passes _ _ c.in_ok-cost.ensures.0 (nothing)))))),
      rw (c.in_ok-unit.ensures.1, c.in_ok-from.ensures.1, c.in_ok-to.ensures.1, c.in_ok-periods.ensures.1, c.in_ok-cost.ensures.1) refl,
    )
