use Rattle.std.proofs.Common.{◌+◌, ◌*◌, ◌<◌, ◌≤◌, ◌^◌, arith, length, subst, sym, List}
use Rattle.std.specs.Prelude.{ℤ, All, unsigned_abs}
use Rattle.std.proofs.lemmas.Int.{ints}
use Rattle.std.proofs.lemmas.List.Elements.{All-push}
use Rattle.plan_sim.specs.Tables.{AddsLevels}
use Rattle.plan_sim.proofs.Tables.{row_step, levels_push, running_small}
use Rattle.plan_sim.proofs.stocks.push_levels.Goals as goal

pub overflow_add-inflow-in-loop-time : goal.overflow_add-inflow-in-loop-time
overflow_add-inflow-in-loop-time c = omega (arith, running_small c.args.arrived.now c.args.width c.args.state c.loop-time.time c.args.opening c.loop-time.inflow c.requires.arrived c.loop-time-test.true c.requires.in_small c.requires.opening c.loop-time.invariant.inflow)

pub overflow_add-outflow-in-loop-time : goal.overflow_add-outflow-in-loop-time
overflow_add-outflow-in-loop-time c = omega (arith, running_small c.args.departed.now c.args.width c.args.state c.loop-time.time 0 c.loop-time.outflow c.requires.departed c.loop-time-test.true c.requires.out_small (omega arith) (omega arith))

pub overflow_cast-inflow : goal.overflow_cast-inflow
overflow_cast-inflow c = omega (arith, ints, running_small c.args.arrived.now c.args.width c.args.state c.loop-time.time c.args.opening c.loop-time.inflow c.requires.arrived c.loop-time-test.true c.requires.in_small c.requires.opening c.loop-time.invariant.inflow)

pub overflow_cast-outflow : goal.overflow_cast-outflow
overflow_cast-outflow c = omega (arith, ints, running_small c.args.departed.now c.args.width c.args.state c.loop-time.time 0 c.loop-time.outflow c.requires.departed c.loop-time-test.true c.requires.out_small (omega arith) (omega arith))

pub overflow_sub-inflow : goal.overflow_sub-inflow
overflow_sub-inflow c =
    let in_small = running_small c.args.arrived.now c.args.width c.args.state c.loop-time.time c.args.opening c.loop-time.inflow c.requires.arrived c.loop-time-test.true c.requires.in_small c.requires.opening c.loop-time.invariant.inflow in
    let out_small = running_small c.args.departed.now c.args.width c.args.state c.loop-time.time 0 c.loop-time.outflow c.requires.departed c.loop-time-test.true c.requires.out_small (omega arith) (omega arith) in
    omega (arith, ints, in_small, out_small)

pub loop-time-preserved : goal.loop-time-preserved
loop-time-preserved c =
    let h : c.args.state * c.args.width + c.loop-time.time < length c.args.arrived.now = omega arith in
    let k : c.args.state * c.args.width + c.loop-time.time < length c.args.departed.now = omega arith in
    let in_step = row_step c.args.arrived.now c.args.width c.args.state c.loop-time.time h in
    let out_step = row_step c.args.departed.now c.args.width c.args.state c.loop-time.time k in
    let in_small = running_small c.args.arrived.now c.args.width c.args.state c.loop-time.time c.args.opening c.loop-time.inflow c.requires.arrived c.loop-time-test.true c.requires.in_small c.requires.opening c.loop-time.invariant.inflow in
    let out_small = running_small c.args.departed.now c.args.width c.args.state c.loop-time.time 0 c.loop-time.outflow c.requires.departed c.loop-time-test.true c.requires.out_small (omega arith) (omega arith) in
    record {
      inflow = omega (arith, in_step);
      outflow = omega (arith, out_step);
      levels = subst (λ (new : List ℤ). AddsLevels c.args.stocks.now.items new c.args.opening c.args.width c.args.state (c.loop-time.time + 1) c.args.arrived.now c.args.departed.now)
          (sym c.in_ok-push.ensures.items)
          (levels_push _ _ _ _ _ _ _ _ _ c.loop-time.invariant.levels (omega (arith, ints, in_step, out_step, in_small, out_small)));
      small = subst (λ (new : List ℤ). All (λ level. unsigned_abs level ≤ 2 ^ 90) new) (sym c.in_ok-push.ensures.items)
          (All-push (λ level. unsigned_abs level ≤ 2 ^ 90) _ _ c.loop-time.invariant.small (omega (arith, ints, in_small, out_small)));
    }
