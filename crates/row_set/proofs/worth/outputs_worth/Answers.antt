-- One more of them, and all.
use Rattle.std.proofs.Common.{◌≤◌, List, take, unsigned_abs, to_z, w64, sym, ap, subst, arith}
use Rattle.stn_model.specs.declared.plant.Output.{Output}
use Rattle.stn_model.specs.Sums.{total}
use Rattle.row_set.specs.ProfitParts.{output_worth}
use Rattle.row_set.proofs.Small.{outputs-part, machine-step, machine-step_fits, output-ends}
use Rattle.row_set.proofs.worth.outputs_worth.Goals as goal

pub overflow_add-sum : goal.overflow_add-sum
overflow_add-sum c =
    let part : unsigned_abs (total (output_worth c.args.plant.now c.args.period) (take c.loop-output.output-index c.as_slice-output-items.result.now)) ≤ 337000000000000 =
    subst (λ (xs : List Output). unsigned_abs (total (output_worth c.args.plant.now c.args.period) (take c.loop-output.output-index xs)) ≤ 337000000000000) (sym c.as_slice-output-items.ensures) (outputs-part c.args.plant.now c.args.task.now c.args.period c.loop-output.output-index c.requires.sound c.requires.fine) in
    machine-step_fits (to_z w64 c.loop-output.sum-bits) (total (output_worth c.args.plant.now c.args.period) (take c.loop-output.output-index c.as_slice-output-items.result.now)) c.amount_worth-sum.result 337000000000000 337000000000000 c.loop-output.invariant part (omega arith) c.amount_worth-sum.ensures.small (omega arith)

pub loop-output-preserved : goal.loop-output-preserved
loop-output-preserved c =
    let part : unsigned_abs (total (output_worth c.args.plant.now c.args.period) (take c.loop-output.output-index c.as_slice-output-items.result.now)) ≤ 337000000000000 =
    subst (λ (xs : List Output). unsigned_abs (total (output_worth c.args.plant.now c.args.period) (take c.loop-output.output-index xs)) ≤ 337000000000000) (sym c.as_slice-output-items.ensures) (outputs-part c.args.plant.now c.args.task.now c.args.period c.loop-output.output-index c.requires.sound c.requires.fine) in
    machine-step (output_worth c.args.plant.now c.args.period) c.as_slice-output-items.result.now c.loop-output.output-index (record { state = 0; amount = 0; delay = 0 }) (to_z w64 c.loop-output.sum-bits) c.amount_worth-sum.result 337000000000000 337000000000000 c.loop-output-test.true c.loop-output.invariant part (omega arith)
    (c.amount_worth-sum.ensures.value) c.amount_worth-sum.ensures.small (omega arith)

pub returns-clause-small : goal.returns-clause-small
returns-clause-small c =
    let part : unsigned_abs (total (output_worth c.args.plant.now c.args.period) (take c.loop-output.output-index c.as_slice-output-items.result.now)) ≤ 337000000000000 =
    subst (λ (xs : List Output). unsigned_abs (total (output_worth c.args.plant.now c.args.period) (take c.loop-output.output-index xs)) ≤ 337000000000000) (sym c.as_slice-output-items.ensures) (outputs-part c.args.plant.now c.args.task.now c.args.period c.loop-output.output-index c.requires.sound c.requires.fine) in
    omega (arith, part, ap unsigned_abs c.loop-output.invariant)

pub amount_worth-sum-requires-clause-time : goal.amount_worth-sum-requires-clause-time
amount_worth-sum-requires-clause-time c =
    output-ends c.args.plant.now c.args.task.now c.as_slice-output-items.result.now c.args.period c.loop-output.output-index (record { state = 0; amount = 0; delay = 0 }) c.as_slice-output-items.ensures c.requires.ends c.loop-output-test.true
