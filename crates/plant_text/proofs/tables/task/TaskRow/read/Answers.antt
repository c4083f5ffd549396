use Rattle.std.proofs.Common.{refl}
use Rattle.std.proofs.lemmas.Result.{err_from_is_err_and}
use Rattle.plant_text.specs.Tables.{task_tests, task_of, task_fields, outputs_of}
use Rattle.plant_text.proofs.Faults.{passes, nothing, stops_after, stops_at}
use Rattle.plant_text.proofs.tables.task.TaskRow.read.Goals as goal

pub returns : goal.returns
unfolding task_tests task_of task_fields outputs_of
returns c =
    rw (← c.in_ok-table.ensures.ok.1, ← c.in_ok-quantum.ensures.1, ← c.in_ok-outputs.ensures.1, ← c.as_slice.ensures, ← c.longest.ensures) (
      passes _ _ c.in_ok-table.ensures.ok.0 (passes _ _ c.in_ok-name.ensures.0 (passes _ _ c.in_ok-label.ensures.0 (passes _ _ c.in_ok-colour.ensures.0 (passes _ _ c.in_ok-quantum.ensures.0 (passes _ _ c.in_ok-inputs.ensures.0 (passes _ _ c.in_ok-outputs.ensures.0 (passes _ _ c.in_ok-draws.ensures.gives.0 nothing))))))),
      rw (c.name-2.view_is, c.label-2.view_is, c.colour-2.view_is, c.in_ok-name.ensures.1, c.in_ok-label.ensures.1, c.in_ok-colour.ensures.1, c.in_ok-inputs_of.ensures, c.as_slice-2.ensures, c.in_ok-inputs.ensures.1, c.in_ok-draws.ensures.gives.1) refl,
    )

pub returns-in_err-table : goal.returns-in_err-table
unfolding task_tests task_fields
returns-in_err-table c =
    let p = err_from_is_err_and c.from_residual.result c.from_residual.ensures.1 in
    rw (p.1, p.2) (stops_at c.in_err-table.field-0.0 _ _ c.in_err-table.ensures.err)

pub returns-in_err-name : goal.returns-in_err-name
unfolding task_tests task_fields
returns-in_err-name c =
    let p = err_from_is_err_and c.from_residual-in_err-name.result c.from_residual-in_err-name.ensures.1 in
    rw (p.1, p.2) (rw (← c.in_ok-table.ensures.ok.1) (stops_after c.in_err-name.field-0.0 _ _ c.in_ok-table.ensures.ok.0 (stops_at c.in_err-name.field-0.0 _ _ c.in_err-name.ensures)))

pub returns-in_err-label : goal.returns-in_err-label
unfolding task_tests task_fields
returns-in_err-label c =
    let p = err_from_is_err_and c.from_residual-in_err-label.result c.from_residual-in_err-label.ensures.1 in
    rw (p.1, p.2) (rw (← c.in_ok-table.ensures.ok.1) (stops_after c.in_err-label.field-0.0 _ _ c.in_ok-table.ensures.ok.0 (stops_after c.in_err-label.field-0.0 _ _ c.in_ok-name.ensures.0 (stops_at c.in_err-label.field-0.0 _ _ c.in_err-label.ensures))))

pub returns-in_err-colour : goal.returns-in_err-colour
unfolding task_tests task_fields
returns-in_err-colour c =
    let p = err_from_is_err_and c.from_residual-in_err-colour.result c.from_residual-in_err-colour.ensures.1 in
    rw (p.1, p.2) (rw (← c.in_ok-table.ensures.ok.1) (stops_after c.in_err-colour.field-0.0 _ _ c.in_ok-table.ensures.ok.0 (stops_after c.in_err-colour.field-0.0 _ _ c.in_ok-name.ensures.0 (stops_after c.in_err-colour.field-0.0 _ _ c.in_ok-label.ensures.0 (stops_at c.in_err-colour.field-0.0 _ _ c.in_err-colour.ensures)))))

pub returns-in_err-quantum : goal.returns-in_err-quantum
unfolding task_tests task_fields
returns-in_err-quantum c =
    let p = err_from_is_err_and c.from_residual-in_err-quantum.result c.from_residual-in_err-quantum.ensures.1 in
    rw (p.1, p.2) (rw (← c.in_ok-table.ensures.ok.1) (stops_after c.in_err-quantum.field-0.0 _ _ c.in_ok-table.ensures.ok.0 (stops_after c.in_err-quantum.field-0.0 _ _ c.in_ok-name.ensures.0 (stops_after c.in_err-quantum.field-0.0 _ _ c.in_ok-label.ensures.0 (stops_after c.in_err-quantum.field-0.0 _ _ c.in_ok-colour.ensures.0 (stops_at c.in_err-quantum.field-0.0 _ _ c.in_err-quantum.ensures))))))

pub returns-in_err-inputs : goal.returns-in_err-inputs
unfolding task_tests task_fields
returns-in_err-inputs c =
    let p = err_from_is_err_and c.from_residual-in_err-inputs.result c.from_residual-in_err-inputs.ensures.1 in
    rw (p.1, p.2) (rw (← c.in_ok-table.ensures.ok.1, ← c.in_ok-quantum.ensures.1) (stops_after c.in_err-inputs.field-0.0 _ _ c.in_ok-table.ensures.ok.0 (stops_after c.in_err-inputs.field-0.0 _ _ c.in_ok-name.ensures.0 (stops_after c.in_err-inputs.field-0.0 _ _ c.in_ok-label.ensures.0 (stops_after c.in_err-inputs.field-0.0 _ _ c.in_ok-colour.ensures.0 (stops_after c.in_err-inputs.field-0.0 _ _ c.in_ok-quantum.ensures.0 (stops_at c.in_err-inputs.field-0.0 _ _ c.in_err-inputs.ensures)))))))

pub returns-in_err-outputs : goal.returns-in_err-outputs
unfolding task_tests task_fields
returns-in_err-outputs c =
    let p = err_from_is_err_and c.from_residual-in_err-outputs.result c.from_residual-in_err-outputs.ensures.1 in
    rw (p.1, p.2) (rw (← c.in_ok-table.ensures.ok.1, ← c.in_ok-quantum.ensures.1) (stops_after c.in_err-outputs.field-0.0 _ _ c.in_ok-table.ensures.ok.0 (stops_after c.in_err-outputs.field-0.0 _ _ c.in_ok-name.ensures.0 (stops_after c.in_err-outputs.field-0.0 _ _ c.in_ok-label.ensures.0 (stops_after c.in_err-outputs.field-0.0 _ _ c.in_ok-colour.ensures.0 (stops_after c.in_err-outputs.field-0.0 _ _ c.in_ok-quantum.ensures.0 (stops_after c.in_err-outputs.field-0.0 _ _ c.in_ok-inputs.ensures.0 (stops_at c.in_err-outputs.field-0.0 _ _ c.in_err-outputs.ensures))))))))

pub returns-in_err-draws : goal.returns-in_err-draws
unfolding task_tests task_fields outputs_of
returns-in_err-draws c =
    let p = err_from_is_err_and c.from_residual-in_err-draws.result c.from_residual-in_err-draws.ensures.1 in
    rw (p.1, p.2) (rw (← c.in_ok-table.ensures.ok.1, ← c.in_ok-quantum.ensures.1, ← c.in_ok-outputs.ensures.1, ← c.as_slice.ensures, ← c.longest.ensures) (stops_after c.in_err-draws.field-0.0 _ _ c.in_ok-table.ensures.ok.0 (stops_after c.in_err-draws.field-0.0 _ _ c.in_ok-name.ensures.0 (stops_after c.in_err-draws.field-0.0 _ _ c.in_ok-label.ensures.0 (stops_after c.in_err-draws.field-0.0 _ _ c.in_ok-colour.ensures.0 (stops_after c.in_err-draws.field-0.0 _ _ c.in_ok-quantum.ensures.0 (stops_after c.in_err-draws.field-0.0 _ _ c.in_ok-inputs.ensures.0 (stops_after c.in_err-draws.field-0.0 _ _ c.in_ok-outputs.ensures.0 (stops_at c.in_err-draws.field-0.0 _ _ c.in_err-draws.ensures.gives)))))))))
