use Rattle.std.proofs.Common.{refl}
use Rattle.std.proofs.lemmas.Result.{err_from_is_err_and}
use Rattle.plant_text.specs.Tables.{draw_tests, draw_of, draw_fields}
use Rattle.plant_text.proofs.Faults.{passes, nothing, stops_after, stops_at}
use Rattle.plant_text.proofs.tables.draw.DrawRow.read.Goals as goal

pub returns-in_err-utility : goal.returns-in_err-utility
unfolding draw_tests draw_fields
returns-in_err-utility c =
    let p = err_from_is_err_and c.from_residual-in_err-utility.result c.from_residual-in_err-utility.ensures.1 in
    rw (p.1, p.2) (rw (← c.in_ok-table.ensures.ok.1) (stops_after c.in_err-utility.field-0.0 _ _ c.in_ok-table.ensures.ok.0 (stops_at c.in_err-utility.field-0.0 _ _ c.in_err-utility.ensures)))

pub returns-in_err-fixed : goal.returns-in_err-fixed
unfolding draw_tests draw_fields
returns-in_err-fixed c =
    let p = err_from_is_err_and c.from_residual-in_err-fixed.result c.from_residual-in_err-fixed.ensures.1 in
    rw (p.1, p.2) (rw (← c.in_ok-table.ensures.ok.1) (stops_after c.in_err-fixed.field-0.0 _ _ c.in_ok-table.ensures.ok.0 (stops_after c.in_err-fixed.field-0.0 _ _ c.in_ok-utility.ensures.0 (stops_at c.in_err-fixed.field-0.0 _ _ c.in_err-fixed.ensures))))

pub returns-in_err-each : goal.returns-in_err-each
unfolding draw_tests draw_fields
returns-in_err-each c =
    let p = err_from_is_err_and c.from_residual-in_err-each.result c.from_residual-in_err-each.ensures.1 in
    rw (p.1, p.2) (rw (← c.in_ok-table.ensures.ok.1) (stops_after c.in_err-each.field-0.0 _ _ c.in_ok-table.ensures.ok.0 (stops_after c.in_err-each.field-0.0 _ _ c.in_ok-utility.ensures.0 (stops_after c.in_err-each.field-0.0 _ _ c.in_ok-fixed.ensures.0 (stops_at c.in_err-each.field-0.0 _ _ c.in_err-each.ensures)))))

pub returns : goal.returns
unfolding draw_tests draw_of draw_fields
returns c =
    rw (← c.in_ok-table.ensures.ok.1) (
      passes _ _ c.in_ok-table.ensures.ok.0 (passes _ _ c.in_ok-utility.ensures.0 (passes _ _ c.in_ok-fixed.ensures.0 (passes _ _ c.in_ok-each.ensures.0 (nothing)))),
      rw (c.in_ok-utility.ensures.1, c.in_ok-fixed.ensures.1, c.in_ok-each.ensures.1) refl,
    )
