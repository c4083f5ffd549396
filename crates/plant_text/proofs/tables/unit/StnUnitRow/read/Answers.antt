use Rattle.std.proofs.Common.{rules, w32, refl}
use mir.Val.{SFits}
use Rattle.std.proofs.lemmas.Int.{to_z-of_z}
use Rattle.std.proofs.lemmas.Result.{err_from_is_err_and}
use Rattle.plant_text.specs.Tables.{unit_tests, unit_of, unit_fields}
use Rattle.plant_text.proofs.Faults.{passes, nothing, stops_after, stops_at}
use Rattle.plant_text.proofs.tables.unit.StnUnitRow.read.Goals as goal

pub returns-in_err-name : goal.returns-in_err-name
unfolding unit_tests unit_fields
returns-in_err-name c =
    let p = err_from_is_err_and c.from_residual-in_err-name.result c.from_residual-in_err-name.ensures.1 in
    rw (p.1, p.2) (rw (← c.has-told.ensures, ← c.in_ok-table.ensures.ok.1) (stops_after c.in_err-name.field-0.0 _ _ c.in_ok-table.ensures.ok.0 (stops_at c.in_err-name.field-0.0 _ _ c.in_err-name.ensures)))

pub returns-in_err-label : goal.returns-in_err-label
unfolding unit_tests unit_fields
returns-in_err-label c =
    let p = err_from_is_err_and c.from_residual-in_err-label.result c.from_residual-in_err-label.ensures.1 in
    rw (p.1, p.2) (rw (← c.has-told.ensures, ← c.in_ok-table.ensures.ok.1) (stops_after c.in_err-label.field-0.0 _ _ c.in_ok-table.ensures.ok.0 (stops_after c.in_err-label.field-0.0 _ _ c.in_ok-name.ensures.0 (stops_at c.in_err-label.field-0.0 _ _ c.in_err-label.ensures))))

pub returns-in_err-last : goal.returns-in_err-last
unfolding unit_tests unit_fields
returns-in_err-last c =
    let p = err_from_is_err_and c.from_residual-in_err-last.result c.from_residual-in_err-last.ensures.1 in
    rw (p.1, p.2) (rw (← c.has-told.ensures, ← c.in_ok-table.ensures.ok.1) (stops_after c.in_err-last.field-0.0 _ _ c.in_ok-table.ensures.ok.0 (stops_after c.in_err-last.field-0.0 _ _ c.in_ok-name.ensures.0 (stops_after c.in_err-last.field-0.0 _ _ c.in_ok-label.ensures.0 (stops_at c.in_err-last.field-0.0 _ _ c.in_err-last.ensures)))))

pub returns-in_err-until : goal.returns-in_err-until
unfolding unit_tests unit_fields
returns-in_err-until c =
    let p = err_from_is_err_and c.from_residual-in_err-until.result c.from_residual-in_err-until.ensures.1 in
    let until = rw c.until_span-span.ensures at c.in_err-until.ensures in
    rw (p.1, p.2) (rw (← c.has-told.ensures, ← c.in_ok-table.ensures.ok.1) (stops_after c.in_err-until.field-0.0 _ _ c.in_ok-table.ensures.ok.0 (stops_after c.in_err-until.field-0.0 _ _ c.in_ok-name.ensures.0 (stops_after c.in_err-until.field-0.0 _ _ c.in_ok-label.ensures.0 (stops_after c.in_err-until.field-0.0 _ _ c.in_ok-last.ensures.0 (stops_at c.in_err-until.field-0.0 _ _ until))))))

pub returns : goal.returns
unfolding unit_tests unit_of unit_fields
returns c =
    let until_fits : SFits w32 c.in_ok-until.until = search rules in
    let until = rw c.until_span-span.ensures at c.in_ok-until.ensures in
    rw (← c.has-told.ensures, ← c.in_ok-table.ensures.ok.1) (
      passes _ _ c.in_ok-table.ensures.ok.0 (passes _ _ c.in_ok-name.ensures.0 (passes _ _ c.in_ok-label.ensures.0 (passes _ _ c.in_ok-last.ensures.0 (passes _ _ until.0 nothing)))),
      rw (c.last_of.ensures, to_z-of_z w32 c.in_ok-until.until until_fits, c.in_ok-name.ensures.1, c.in_ok-label.ensures.1, c.in_ok-last.ensures.1, until.1) refl,
    )
