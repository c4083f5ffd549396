use Rattle.std.proofs.Common.{rules, w64, refl}
use mir.Val.{SFits}
use Rattle.std.proofs.lemmas.Int.{to_z-of_z}
use Rattle.std.proofs.lemmas.Result.{err_from_is_err_and}
use Rattle.plant_text.specs.Tables.{utility_tests, utility_of, utility_fields}
use Rattle.plant_text.proofs.Faults.{passes, nothing, stops_after, stops_at}
use Rattle.plant_text.proofs.tables.utility.UtilityRow.read.Goals as goal

pub returns-in_err-name : goal.returns-in_err-name
unfolding utility_tests utility_fields
returns-in_err-name c =
    let p = err_from_is_err_and c.from_residual-in_err-name.result c.from_residual-in_err-name.ensures.1 in
    rw (p.1, p.2) (rw (← c.has-listed.ensures, ← c.has-2.ensures, ← c.has.ensures, ← c.in_ok-table.ensures.ok.1) (stops_after c.in_err-name.field-0.0 _ _ c.in_ok-table.ensures.ok.0 (stops_at c.in_err-name.field-0.0 _ _ c.in_err-name.ensures)))

pub returns-in_err-label : goal.returns-in_err-label
unfolding utility_tests utility_fields
returns-in_err-label c =
    let p = err_from_is_err_and c.from_residual-in_err-label.result c.from_residual-in_err-label.ensures.1 in
    rw (p.1, p.2) (rw (← c.has-listed.ensures, ← c.has-2.ensures, ← c.has.ensures, ← c.in_ok-table.ensures.ok.1) (stops_after c.in_err-label.field-0.0 _ _ c.in_ok-table.ensures.ok.0 (stops_after c.in_err-label.field-0.0 _ _ c.in_ok-name.ensures.0 (stops_at c.in_err-label.field-0.0 _ _ c.in_err-label.ensures))))

pub returns-in_err-limit : goal.returns-in_err-limit
unfolding utility_tests utility_fields
returns-in_err-limit c =
    let p = err_from_is_err_and c.from_residual-in_err-limit.result c.from_residual-in_err-limit.ensures.1 in
    rw (p.1, p.2) (rw (← c.has-listed.ensures, ← c.has-2.ensures, ← c.has.ensures, ← c.in_ok-table.ensures.ok.1) (stops_after c.in_err-limit.field-0.0 _ _ c.in_ok-table.ensures.ok.0 (stops_after c.in_err-limit.field-0.0 _ _ c.in_ok-name.ensures.0 (stops_after c.in_err-limit.field-0.0 _ _ c.in_ok-label.ensures.0 (stops_at c.in_err-limit.field-0.0 _ _ c.in_err-limit.ensures)))))

pub returns-in_err-limits : goal.returns-in_err-limits
unfolding utility_tests utility_fields
returns-in_err-limits c =
    let p = err_from_is_err_and c.from_residual-in_err-limits.result c.from_residual-in_err-limits.ensures.1 in
    rw (p.1, p.2) (rw (← c.has-listed.ensures, ← c.has-2.ensures, ← c.has.ensures, ← c.in_ok-table.ensures.ok.1) (stops_after c.in_err-limits.field-0.0 _ _ c.in_ok-table.ensures.ok.0 (stops_after c.in_err-limits.field-0.0 _ _ c.in_ok-name.ensures.0 (stops_after c.in_err-limits.field-0.0 _ _ c.in_ok-label.ensures.0 (stops_after c.in_err-limits.field-0.0 _ _ c.in_ok-limit.ensures.0 (stops_at c.in_err-limits.field-0.0 _ _ c.in_err-limits.ensures))))))

pub returns-in_err-rate : goal.returns-in_err-rate
unfolding utility_tests utility_fields
returns-in_err-rate c =
    let p = err_from_is_err_and c.from_residual-in_err-rate.result c.from_residual-in_err-rate.ensures.1 in
    rw (p.1, p.2) (rw (← c.has-listed.ensures, ← c.has-2.ensures, ← c.has.ensures, ← c.in_ok-table.ensures.ok.1) (stops_after c.in_err-rate.field-0.0 _ _ c.in_ok-table.ensures.ok.0 (stops_after c.in_err-rate.field-0.0 _ _ c.in_ok-name.ensures.0 (stops_after c.in_err-rate.field-0.0 _ _ c.in_ok-label.ensures.0 (stops_after c.in_err-rate.field-0.0 _ _ c.in_ok-limit.ensures.0 (stops_after c.in_err-rate.field-0.0 _ _ c.in_ok-limits.ensures.0 (stops_at c.in_err-rate.field-0.0 _ _ c.in_err-rate.ensures)))))))

pub returns-in_err-rates : goal.returns-in_err-rates
unfolding utility_tests utility_fields
returns-in_err-rates c =
    let p = err_from_is_err_and c.from_residual-in_err-rates.result c.from_residual-in_err-rates.ensures.1 in
    rw (p.1, p.2) (rw (← c.has-listed.ensures, ← c.has-2.ensures, ← c.has.ensures, ← c.in_ok-table.ensures.ok.1) (stops_after c.in_err-rates.field-0.0 _ _ c.in_ok-table.ensures.ok.0 (stops_after c.in_err-rates.field-0.0 _ _ c.in_ok-name.ensures.0 (stops_after c.in_err-rates.field-0.0 _ _ c.in_ok-label.ensures.0 (stops_after c.in_err-rates.field-0.0 _ _ c.in_ok-limit.ensures.0 (stops_after c.in_err-rates.field-0.0 _ _ c.in_ok-limits.ensures.0 (stops_after c.in_err-rates.field-0.0 _ _ c.in_ok-rate.ensures.0 (stops_at c.in_err-rates.field-0.0 _ _ c.in_err-rates.ensures))))))))

pub returns : goal.returns
unfolding utility_tests utility_of utility_fields
returns c =
    let rate_fits : SFits w64 c.in_ok-rate.rate = search rules in
    rw (← c.has-listed.ensures, ← c.has-2.ensures, ← c.has.ensures, ← c.in_ok-table.ensures.ok.1) (
      passes _ _ c.in_ok-table.ensures.ok.0 (passes _ _ c.in_ok-name.ensures.0 (passes _ _ c.in_ok-label.ensures.0 (passes _ _ c.in_ok-limit.ensures.0 (passes _ _ c.in_ok-limits.ensures.0 (passes _ _ c.in_ok-rate.ensures.0 (passes _ _ c.in_ok-rates.ensures.0 nothing)))))),
      rw (to_z-of_z w64 c.in_ok-rate.rate rate_fits, c.in_ok-name.ensures.1, c.in_ok-label.ensures.1, c.in_ok-limits.ensures.1, c.in_ok-rate.ensures.1, c.in_ok-rates.ensures.1, c.in_ok-limit.ensures.1) refl,
    )
