use Rattle.std.proofs.Common.{rules, w64, refl}
use mir.Val.{SFits}
use Rattle.std.proofs.lemmas.Int.{to_z-of_z}
use Rattle.std.proofs.lemmas.Result.{err_from_is_err_and}
use Rattle.plant_text.specs.Tables.{state_tests, state_of, state_fields}
use Rattle.plant_text.proofs.Faults.{passes, nothing, stops_after, stops_at}
use Rattle.plant_text.proofs.tables.state.StateRow.read.Goals as goal

pub returns-in_err-table : goal.returns-in_err-table
unfolding state_tests state_fields
returns-in_err-table c =
    let p = err_from_is_err_and c.from_residual.result c.from_residual.ensures.1 in
    rw (p.1, p.2) (stops_at c.in_err-table.field-0.0 _ _ c.in_err-table.ensures.err)

pub returns-in_err-name : goal.returns-in_err-name
unfolding state_tests state_fields
returns-in_err-name c =
    let p = err_from_is_err_and c.from_residual-in_err-name.result c.from_residual-in_err-name.ensures.1 in
    rw (p.1, p.2) (rw (← c.has.ensures, ← c.in_ok-table.ensures.ok.1) (stops_after c.in_err-name.field-0.0 _ _ c.in_ok-table.ensures.ok.0 (stops_at c.in_err-name.field-0.0 _ _ c.in_err-name.ensures)))

pub returns-in_err-label : goal.returns-in_err-label
unfolding state_tests state_fields
returns-in_err-label c =
    let p = err_from_is_err_and c.from_residual-in_err-label.result c.from_residual-in_err-label.ensures.1 in
    rw (p.1, p.2) (rw (← c.has.ensures, ← c.in_ok-table.ensures.ok.1) (stops_after c.in_err-label.field-0.0 _ _ c.in_ok-table.ensures.ok.0 (stops_after c.in_err-label.field-0.0 _ _ c.in_ok-name.ensures.0 (stops_at c.in_err-label.field-0.0 _ _ c.in_err-label.ensures))))

pub returns-in_err-initial : goal.returns-in_err-initial
unfolding state_tests state_fields
returns-in_err-initial c =
    let p = err_from_is_err_and c.from_residual-in_err-initial.result c.from_residual-in_err-initial.ensures.1 in
    rw (p.1, p.2) (rw (← c.has.ensures, ← c.in_ok-table.ensures.ok.1) (stops_after c.in_err-initial.field-0.0 _ _ c.in_ok-table.ensures.ok.0 (stops_after c.in_err-initial.field-0.0 _ _ c.in_ok-name.ensures.0 (stops_after c.in_err-initial.field-0.0 _ _ c.in_ok-label.ensures.0 (stops_at c.in_err-initial.field-0.0 _ _ c.in_err-initial.ensures)))))

pub returns-in_err-limit : goal.returns-in_err-limit
unfolding state_tests state_fields
returns-in_err-limit c =
    let p = err_from_is_err_and c.from_residual-in_err-limit.result c.from_residual-in_err-limit.ensures.1 in
    rw (p.1, p.2) (rw (← c.has.ensures, ← c.in_ok-table.ensures.ok.1) (stops_after c.in_err-limit.field-0.0 _ _ c.in_ok-table.ensures.ok.0 (stops_after c.in_err-limit.field-0.0 _ _ c.in_ok-name.ensures.0 (stops_after c.in_err-limit.field-0.0 _ _ c.in_ok-label.ensures.0 (stops_after c.in_err-limit.field-0.0 _ _ c.in_ok-initial.ensures.0 (stops_at c.in_err-limit.field-0.0 _ _ c.in_err-limit.ensures))))))

pub returns-in_err-limits : goal.returns-in_err-limits
unfolding state_tests state_fields
returns-in_err-limits c =
    let p = err_from_is_err_and c.from_residual-in_err-limits.result c.from_residual-in_err-limits.ensures.1 in
    rw (p.1, p.2) (rw (← c.has.ensures, ← c.in_ok-table.ensures.ok.1) (stops_after c.in_err-limits.field-0.0 _ _ c.in_ok-table.ensures.ok.0 (stops_after c.in_err-limits.field-0.0 _ _ c.in_ok-name.ensures.0 (stops_after c.in_err-limits.field-0.0 _ _ c.in_ok-label.ensures.0 (stops_after c.in_err-limits.field-0.0 _ _ c.in_ok-initial.ensures.0 (stops_after c.in_err-limits.field-0.0 _ _ c.in_ok-limit.ensures.0 (stops_at c.in_err-limits.field-0.0 _ _ c.in_err-limits.ensures)))))))

pub returns-in_err-price : goal.returns-in_err-price
unfolding state_tests state_fields
returns-in_err-price c =
    let p = err_from_is_err_and c.from_residual-in_err-price.result c.from_residual-in_err-price.ensures.1 in
    rw (p.1, p.2) (rw (← c.has.ensures, ← c.in_ok-table.ensures.ok.1) (stops_after c.in_err-price.field-0.0 _ _ c.in_ok-table.ensures.ok.0 (stops_after c.in_err-price.field-0.0 _ _ c.in_ok-name.ensures.0 (stops_after c.in_err-price.field-0.0 _ _ c.in_ok-label.ensures.0 (stops_after c.in_err-price.field-0.0 _ _ c.in_ok-initial.ensures.0 (stops_after c.in_err-price.field-0.0 _ _ c.in_ok-limit.ensures.0 (stops_after c.in_err-price.field-0.0 _ _ c.in_ok-limits.ensures.0 (stops_at c.in_err-price.field-0.0 _ _ c.in_err-price.ensures))))))))

pub returns-in_err-holding : goal.returns-in_err-holding
unfolding state_tests state_fields
returns-in_err-holding c =
    let p = err_from_is_err_and c.from_residual-in_err-holding.result c.from_residual-in_err-holding.ensures.1 in
    rw (p.1, p.2) (rw (← c.has.ensures, ← c.in_ok-table.ensures.ok.1) (stops_after c.in_err-holding.field-0.0 _ _ c.in_ok-table.ensures.ok.0 (stops_after c.in_err-holding.field-0.0 _ _ c.in_ok-name.ensures.0 (stops_after c.in_err-holding.field-0.0 _ _ c.in_ok-label.ensures.0 (stops_after c.in_err-holding.field-0.0 _ _ c.in_ok-initial.ensures.0 (stops_after c.in_err-holding.field-0.0 _ _ c.in_ok-limit.ensures.0 (stops_after c.in_err-holding.field-0.0 _ _ c.in_ok-limits.ensures.0 (stops_after c.in_err-holding.field-0.0 _ _ c.in_ok-price.ensures.0 (stops_at c.in_err-holding.field-0.0 _ _ c.in_err-holding.ensures)))))))))

pub returns : goal.returns
unfolding state_tests state_of state_fields
returns c =
    let price_fits : SFits w64 c.in_ok-price.price = search rules in
    let holding_fits : SFits w64 c.in_ok-holding.holding = search rules in
    rw (← c.has.ensures, ← c.in_ok-table.ensures.ok.1) (
      passes _ _ c.in_ok-table.ensures.ok.0 (passes _ _ c.in_ok-name.ensures.0 (passes _ _ c.in_ok-label.ensures.0 (passes _ _ c.in_ok-initial.ensures.0 (passes _ _ c.in_ok-limit.ensures.0 (passes _ _ c.in_ok-limits.ensures.0 (passes _ _ c.in_ok-price.ensures.0 (passes _ _ c.in_ok-holding.ensures.0 nothing))))))),
      rw (to_z-of_z w64 c.in_ok-price.price price_fits, to_z-of_z w64 c.in_ok-holding.holding holding_fits, c.in_ok-name.ensures.1, c.in_ok-label.ensures.1, c.from.ensures, c.in_ok-initial.ensures.1, c.in_ok-limits.ensures.1, c.in_ok-limit.ensures.1, c.in_ok-price.ensures.1, c.in_ok-holding.ensures.1) refl,
    )
