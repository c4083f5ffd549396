use Rattle.std.proofs.Common.{rules, w64, refl}
use mir.Val.{SFits}
use Rattle.std.proofs.lemmas.Int.{to_z-of_z}
use Rattle.std.proofs.lemmas.Result.{err_from_is_err_and}
use Rattle.plant_text.specs.Tables.{delivery_tests, delivery_of, delivery_fields}
use Rattle.plant_text.proofs.Faults.{passes, nothing, stops_after, stops_at}
use Rattle.plant_text.proofs.tables.delivery.DeliveryRow.read.Goals as goal

pub returns-in_err-state : goal.returns-in_err-state
unfolding delivery_tests delivery_fields
returns-in_err-state c =
    let p = err_from_is_err_and c.from_residual-in_err-state.result c.from_residual-in_err-state.ensures.1 in
    rw (p.1, p.2) (rw (← c.in_ok-table.ensures.ok.1) (stops_after c.in_err-state.field-0.0 _ _ c.in_ok-table.ensures.ok.0 (stops_at c.in_err-state.field-0.0 _ _ c.in_err-state.ensures)))

pub returns-in_err-time : goal.returns-in_err-time
unfolding delivery_tests delivery_fields
returns-in_err-time c =
    let p = err_from_is_err_and c.from_residual-in_err-time.result c.from_residual-in_err-time.ensures.1 in
    rw (p.1, p.2) (rw (← c.in_ok-table.ensures.ok.1) (stops_after c.in_err-time.field-0.0 _ _ c.in_ok-table.ensures.ok.0 (stops_after c.in_err-time.field-0.0 _ _ c.in_ok-state.ensures.0 (stops_at c.in_err-time.field-0.0 _ _ c.in_err-time.ensures))))

pub returns-in_err-amount : goal.returns-in_err-amount
unfolding delivery_tests delivery_fields
returns-in_err-amount c =
    let p = err_from_is_err_and c.from_residual-in_err-amount.result c.from_residual-in_err-amount.ensures.1 in
    rw (p.1, p.2) (rw (← c.in_ok-table.ensures.ok.1) (stops_after c.in_err-amount.field-0.0 _ _ c.in_ok-table.ensures.ok.0 (stops_after c.in_err-amount.field-0.0 _ _ c.in_ok-state.ensures.0 (stops_after c.in_err-amount.field-0.0 _ _ c.in_ok-time.ensures.0 (stops_at c.in_err-amount.field-0.0 _ _ c.in_err-amount.ensures)))))

pub returns-in_err-payment : goal.returns-in_err-payment
unfolding delivery_tests delivery_fields
returns-in_err-payment c =
    let p = err_from_is_err_and c.from_residual-in_err-payment.result c.from_residual-in_err-payment.ensures.1 in
    rw (p.1, p.2) (rw (← c.in_ok-table.ensures.ok.1) (stops_after c.in_err-payment.field-0.0 _ _ c.in_ok-table.ensures.ok.0 (stops_after c.in_err-payment.field-0.0 _ _ c.in_ok-state.ensures.0 (stops_after c.in_err-payment.field-0.0 _ _ c.in_ok-time.ensures.0 (stops_after c.in_err-payment.field-0.0 _ _ c.in_ok-amount.ensures.0 (stops_at c.in_err-payment.field-0.0 _ _ c.in_err-payment.ensures))))))

pub returns : goal.returns
unfolding delivery_tests delivery_of delivery_fields
returns c =
    let payment_fits : SFits w64 c.in_ok-payment.payment = search rules in
    rw (← c.in_ok-table.ensures.ok.1) (
      passes _ _ c.in_ok-table.ensures.ok.0 (passes _ _ c.in_ok-state.ensures.0 (passes _ _ c.in_ok-time.ensures.0 (passes _ _ c.in_ok-amount.ensures.0 (passes _ _ c.in_ok-payment.ensures.0 (nothing))))),
      rw (to_z-of_z w64 c.in_ok-payment.payment payment_fits, c.from.ensures, c.in_ok-state.ensures.1, c.in_ok-time.ensures.1, c.in_ok-amount.ensures.1, c.in_ok-payment.ensures.1) refl,
    )
