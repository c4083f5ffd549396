use Rattle.std.proofs.Common.{refl}
use Rattle.std.proofs.lemmas.Result.{err_from_is_err_and}
use Rattle.plant_text.specs.Tables.{side_tests, side_of, side_fields}
use Rattle.plant_text.proofs.Faults.{passes, nothing, stops_after, stops_at}
use Rattle.plant_text.proofs.tables.side.SidePartRow.read.Goals as goal

pub returns-in_err-state : goal.returns-in_err-state
unfolding side_tests side_fields
returns-in_err-state c =
    let p = err_from_is_err_and c.from_residual-in_err-state.result c.from_residual-in_err-state.ensures.1 in
    rw (p.1, p.2) (rw (← c.is_output-output.ensures, ← c.in_ok-table.ensures.ok.1) (stops_after c.in_err-state.field-0.0 _ _ c.in_ok-table.ensures.ok.0 (stops_at c.in_err-state.field-0.0 _ _ c.in_err-state.ensures)))

pub returns-in_err-part : goal.returns-in_err-part
unfolding side_tests side_fields
returns-in_err-part c =
    let p = err_from_is_err_and c.from_residual-in_err-part.result c.from_residual-in_err-part.ensures.1 in
    rw (p.1, p.2) (rw (← c.is_output-output.ensures, ← c.in_ok-table.ensures.ok.1) (stops_after c.in_err-part.field-0.0 _ _ c.in_ok-table.ensures.ok.0 (stops_after c.in_err-part.field-0.0 _ _ c.in_ok-state.ensures.0 (stops_at c.in_err-part.field-0.0 _ _ c.in_err-part.ensures))))

pub returns-in_err-delay : goal.returns-in_err-delay
unfolding side_tests side_fields
returns-in_err-delay c =
    let p = err_from_is_err_and c.from_residual-in_err-delay.result c.from_residual-in_err-delay.ensures.1 in
    rw (p.1, p.2) (rw (← c.is_output-output.ensures, ← c.in_ok-table.ensures.ok.1) (stops_after c.in_err-delay.field-0.0 _ _ c.in_ok-table.ensures.ok.0 (stops_after c.in_err-delay.field-0.0 _ _ c.in_ok-state.ensures.0 (stops_after c.in_err-delay.field-0.0 _ _ c.in_ok-part.ensures.0 (stops_at c.in_err-delay.field-0.0 _ _ c.in_err-delay.ensures)))))

pub returns : goal.returns
unfolding side_tests side_of side_fields
returns c =
    rw (← c.is_output-output.ensures, ← c.in_ok-table.ensures.ok.1) (
      passes _ _ c.in_ok-table.ensures.ok.0 (passes _ _ c.in_ok-state.ensures.0 (passes _ _ c.in_ok-part.ensures.0 (passes _ _ c.in_ok-delay.ensures.0 (nothing)))),
      rw (c.in_ok-state.ensures.1, c.in_ok-part.ensures.1, c.in_ok-delay.ensures.1) refl,
    )
