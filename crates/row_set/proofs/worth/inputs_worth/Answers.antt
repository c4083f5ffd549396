-- One more of them, and all.
use Rattle.std.proofs.Common.{◌≤◌, List, take, unsigned_abs, to_z, w64, sym, ap, subst, arith}
use Rattle.stn_model.specs.declared.plant.Input.{Input}
use Rattle.stn_model.specs.Sums.{total}
use Rattle.row_set.specs.ProfitParts.{input_worth}
use Rattle.row_set.proofs.Small.{inputs-part, machine-step, machine-step_fits}
use Rattle.row_set.proofs.worth.inputs_worth.Goals as goal

pub overflow_add-sum : goal.overflow_add-sum
overflow_add-sum c =
    let part : unsigned_abs (total (input_worth c.args.plant.now c.args.period) (take c.loop-input.input-index c.as_slice-input-items.result.now)) ≤ 337000000000000 =
    subst (λ (xs : List Input). unsigned_abs (total (input_worth c.args.plant.now c.args.period) (take c.loop-input.input-index xs)) ≤ 337000000000000) (sym c.as_slice-input-items.ensures) (inputs-part c.args.plant.now c.args.task.now c.args.period c.loop-input.input-index c.requires.sound c.requires.fine) in
    machine-step_fits (to_z w64 c.loop-input.sum-bits) (total (input_worth c.args.plant.now c.args.period) (take c.loop-input.input-index c.as_slice-input-items.result.now)) c.amount_worth-sum.result 337000000000000 337000000000000 c.loop-input.invariant part (omega arith) c.amount_worth-sum.ensures.small (omega arith)

pub loop-input-preserved : goal.loop-input-preserved
loop-input-preserved c =
    let part : unsigned_abs (total (input_worth c.args.plant.now c.args.period) (take c.loop-input.input-index c.as_slice-input-items.result.now)) ≤ 337000000000000 =
    subst (λ (xs : List Input). unsigned_abs (total (input_worth c.args.plant.now c.args.period) (take c.loop-input.input-index xs)) ≤ 337000000000000) (sym c.as_slice-input-items.ensures) (inputs-part c.args.plant.now c.args.task.now c.args.period c.loop-input.input-index c.requires.sound c.requires.fine) in
    machine-step (input_worth c.args.plant.now c.args.period) c.as_slice-input-items.result.now c.loop-input.input-index (record { state = 0; amount = 0 }) (to_z w64 c.loop-input.sum-bits) c.amount_worth-sum.result 337000000000000 337000000000000 c.loop-input-test.true c.loop-input.invariant part (omega arith)
    (c.amount_worth-sum.ensures.value) c.amount_worth-sum.ensures.small (omega arith)

pub returns-clause-small : goal.returns-clause-small
returns-clause-small c =
    let part : unsigned_abs (total (input_worth c.args.plant.now c.args.period) (take c.loop-input.input-index c.as_slice-input-items.result.now)) ≤ 337000000000000 =
    subst (λ (xs : List Input). unsigned_abs (total (input_worth c.args.plant.now c.args.period) (take c.loop-input.input-index xs)) ≤ 337000000000000) (sym c.as_slice-input-items.ensures) (inputs-part c.args.plant.now c.args.task.now c.args.period c.loop-input.input-index c.requires.sound c.requires.fine) in
    omega (arith, part, ap unsigned_abs c.loop-input.invariant)
