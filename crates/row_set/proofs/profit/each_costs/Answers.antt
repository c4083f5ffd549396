-- One more of them, and all.
use Rattle.std.proofs.Common.{◌≤◌, List, take, unsigned_abs, length, to_z, w64, sym, ap, ◌∙◌, subst, arith}
use Rattle.stn_model.specs.declared.plant.Draw.{Draw}
use Rattle.stn_model.specs.Sums.{total}
use Rattle.row_set.specs.ProfitParts.{cost_from, each_cost}
use Rattle.row_set.proofs.Small.{each-part, machine-step, machine-step_fits, draw-few}
use Rattle.row_set.proofs.profit.each_costs.Goals as goal

pub overflow_add-sum : goal.overflow_add-sum
overflow_add-sum c =
    let part : unsigned_abs (total (each_cost c.args.plant.now c.args.period) (take c.loop-draw.draw-index c.as_slice-draw-items.result.now)) ≤ 768000000000000 =
    subst (λ (xs : List Draw). unsigned_abs (total (each_cost c.args.plant.now c.args.period) (take c.loop-draw.draw-index xs)) ≤ 768000000000000) (sym c.as_slice-draw-items.ensures) (each-part c.args.plant.now c.args.task.now c.args.period c.loop-draw.draw-index c.requires.sound c.requires.fine) in
    machine-step_fits (to_z w64 c.loop-draw.sum-bits) (total (each_cost c.args.plant.now c.args.period) (take c.loop-draw.draw-index c.as_slice-draw-items.result.now)) c.cost_from-sum.result 768000000000000 96000000000000 c.loop-draw.invariant part (omega arith) c.cost_from-sum.ensures.small (omega arith)

pub loop-draw-preserved : goal.loop-draw-preserved
loop-draw-preserved c =
    let part : unsigned_abs (total (each_cost c.args.plant.now c.args.period) (take c.loop-draw.draw-index c.as_slice-draw-items.result.now)) ≤ 768000000000000 =
    subst (λ (xs : List Draw). unsigned_abs (total (each_cost c.args.plant.now c.args.period) (take c.loop-draw.draw-index xs)) ≤ 768000000000000) (sym c.as_slice-draw-items.ensures) (each-part c.args.plant.now c.args.task.now c.args.period c.loop-draw.draw-index c.requires.sound c.requires.fine) in
    machine-step (each_cost c.args.plant.now c.args.period) c.as_slice-draw-items.result.now c.loop-draw.draw-index c.draw-item.result (to_z w64 c.loop-draw.sum-bits) c.cost_from-sum.result 768000000000000 96000000000000 c.loop-draw-test.true c.loop-draw.invariant part (omega arith)
    (c.cost_from-sum.ensures.value ∙ ap (cost_from c.args.plant.now c.draw-item.result.utility c.args.period) c.as_slice.ensures ∙ ap (each_cost c.args.plant.now c.args.period) c.draw-item.is) c.cost_from-sum.ensures.small (omega arith)

pub returns-clause-small : goal.returns-clause-small
returns-clause-small c =
    let part : unsigned_abs (total (each_cost c.args.plant.now c.args.period) (take c.loop-draw.draw-index c.as_slice-draw-items.result.now)) ≤ 768000000000000 =
    subst (λ (xs : List Draw). unsigned_abs (total (each_cost c.args.plant.now c.args.period) (take c.loop-draw.draw-index xs)) ≤ 768000000000000) (sym c.as_slice-draw-items.ensures) (each-part c.args.plant.now c.args.task.now c.args.period c.loop-draw.draw-index c.requires.sound c.requires.fine) in
    omega (arith, part, ap unsigned_abs c.loop-draw.invariant)

pub cost_from-sum-requires-clause-few : goal.cost_from-sum-requires-clause-few
cost_from-sum-requires-clause-few c =
    let few = (draw-few c.args.plant.now c.args.task.now c.as_slice-draw-items.result.now c.loop-draw.draw-index c.draw-item.result c.requires.fine c.as_slice-draw-items.ensures c.loop-draw-test.true c.draw-item.is).1 in
    omega (arith, few, ap length c.as_slice.ensures)
