use Rattle.std.proofs.Common.{rules, w64, refl}
use mir.Val.{SFits}
use Rattle.std.proofs.lemmas.Int.{to_z-of_z}
use Rattle.std.proofs.lemmas.Result.{err_from_is_err_and}
use Rattle.plant_text.specs.Tables.{run_tests, run_of, run_fields}
use Rattle.plant_text.proofs.Faults.{passes, nothing, stops_after, stops_at}
use Rattle.plant_text.proofs.tables.run.RunRow.read.Goals as goal

pub returns-in_err-task : goal.returns-in_err-task
unfolding run_tests run_fields
returns-in_err-task c =
    let p = err_from_is_err_and c.from_residual-in_err-task.result c.from_residual-in_err-task.ensures.1 in
    rw (p.1, p.2) (rw (← c.in_ok-table.ensures.ok.1) (stops_at c.in_err-task.field-0.0 _ _ (stops_after c.in_err-task.field-0.0 _ _ c.in_ok-table.ensures.ok.0 (stops_at c.in_err-task.field-0.0 _ _ c.in_err-task.ensures))))

pub returns-in_err-unit : goal.returns-in_err-unit
unfolding run_tests run_fields
returns-in_err-unit c =
    let p = err_from_is_err_and c.from_residual-in_err-unit.result c.from_residual-in_err-unit.ensures.1 in
    rw (p.1, p.2) (rw (← c.in_ok-table.ensures.ok.1) (stops_at c.in_err-unit.field-0.0 _ _ (stops_after c.in_err-unit.field-0.0 _ _ c.in_ok-table.ensures.ok.0 (stops_after c.in_err-unit.field-0.0 _ _ c.in_ok-task.ensures.0 (stops_at c.in_err-unit.field-0.0 _ _ c.in_err-unit.ensures)))))

pub returns-in_err-min : goal.returns-in_err-min
unfolding run_tests run_fields
returns-in_err-min c =
    let p = err_from_is_err_and c.from_residual-in_err-min.result c.from_residual-in_err-min.ensures.1 in
    rw (p.1, p.2) (rw (← c.in_ok-table.ensures.ok.1) (stops_at c.in_err-min.field-0.0 _ _ (stops_after c.in_err-min.field-0.0 _ _ c.in_ok-table.ensures.ok.0 (stops_after c.in_err-min.field-0.0 _ _ c.in_ok-task.ensures.0 (stops_after c.in_err-min.field-0.0 _ _ c.in_ok-unit.ensures.0 (stops_at c.in_err-min.field-0.0 _ _ c.in_err-min.ensures))))))

pub returns-in_err-max : goal.returns-in_err-max
unfolding run_tests run_fields
returns-in_err-max c =
    let p = err_from_is_err_and c.from_residual-in_err-max.result c.from_residual-in_err-max.ensures.1 in
    rw (p.1, p.2) (rw (← c.in_ok-table.ensures.ok.1) (stops_at c.in_err-max.field-0.0 _ _ (stops_after c.in_err-max.field-0.0 _ _ c.in_ok-table.ensures.ok.0 (stops_after c.in_err-max.field-0.0 _ _ c.in_ok-task.ensures.0 (stops_after c.in_err-max.field-0.0 _ _ c.in_ok-unit.ensures.0 (stops_after c.in_err-max.field-0.0 _ _ c.in_ok-min.ensures.0 (stops_at c.in_err-max.field-0.0 _ _ c.in_err-max.ensures)))))))

pub returns-in_err-cost : goal.returns-in_err-cost
unfolding run_tests run_fields
returns-in_err-cost c =
    let p = err_from_is_err_and c.from_residual-in_err-cost.result c.from_residual-in_err-cost.ensures.1 in
    rw (p.1, p.2) (rw (← c.in_ok-table.ensures.ok.1) (stops_at c.in_err-cost.field-0.0 _ _ (stops_after c.in_err-cost.field-0.0 _ _ c.in_ok-table.ensures.ok.0 (stops_after c.in_err-cost.field-0.0 _ _ c.in_ok-task.ensures.0 (stops_after c.in_err-cost.field-0.0 _ _ c.in_ok-unit.ensures.0 (stops_after c.in_err-cost.field-0.0 _ _ c.in_ok-min.ensures.0 (stops_after c.in_err-cost.field-0.0 _ _ c.in_ok-max.ensures.0 (stops_at c.in_err-cost.field-0.0 _ _ c.in_err-cost.ensures))))))))

pub returns-in_err-judge : goal.returns-in_err-judge
unfolding run_tests run_of run_fields
returns-in_err-judge c =
    let cost_fits : SFits w64 c.in_ok-cost.cost = search rules in
    let p = err_from_is_err_and c.from_residual-in_err-judge.result c.from_residual-in_err-judge.ensures.1 in
    let judged = rw (to_z-of_z w64 c.in_ok-cost.cost cost_fits) at c.in_err-judge.ensures.err in
    rw (p.1, p.2) (rw (← c.in_ok-table.ensures.ok.1)
    (stops_after c.in_err-judge.field-0.0 _ _
    (passes _ _ c.in_ok-table.ensures.ok.0 (passes _ _ c.in_ok-task.ensures.0 (passes _ _ c.in_ok-unit.ensures.0 (passes _ _ c.in_ok-min.ensures.0 (passes _ _ c.in_ok-max.ensures.0 (passes _ _ c.in_ok-cost.ensures.0 nothing))))))
    (rw (← c.in_ok-task.ensures.1, ← c.in_ok-unit.ensures.1, ← c.in_ok-min.ensures.1, ← c.in_ok-max.ensures.1, ← c.in_ok-cost.ensures.1) judged)))

pub returns : goal.returns
unfolding run_tests run_of run_fields
returns c =
    let cost_fits : SFits w64 c.in_ok-cost.cost = search rules in
    let judged = rw (to_z-of_z w64 c.in_ok-cost.cost cost_fits) at c.in_ok-judge.ensures.ok in
    rw (← c.in_ok-table.ensures.ok.1) (
      passes _ _
          (passes _ _ c.in_ok-table.ensures.ok.0 (passes _ _ c.in_ok-task.ensures.0 (passes _ _ c.in_ok-unit.ensures.0 (passes _ _ c.in_ok-min.ensures.0 (passes _ _ c.in_ok-max.ensures.0 (passes _ _ c.in_ok-cost.ensures.0 nothing))))))
          (rw (← c.in_ok-task.ensures.1, ← c.in_ok-unit.ensures.1, ← c.in_ok-min.ensures.1, ← c.in_ok-max.ensures.1, ← c.in_ok-cost.ensures.1) judged),
      rw (to_z-of_z w64 c.in_ok-cost.cost cost_fits, c.in_ok-task.ensures.1, c.in_ok-unit.ensures.1, c.in_ok-min.ensures.1, c.in_ok-max.ensures.1, c.in_ok-cost.ensures.1) refl,
    )
