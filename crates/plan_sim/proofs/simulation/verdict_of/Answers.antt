use Rattle.std.proofs.Common.{◌+◌, refl, arith, rules}
use Rattle.std.proofs.lemmas.Int.{to_z-of_z}
use mir.Val.{SFits}
use mir.Syntax.{w128}
use Rattle.plan_sim.proofs.Firsts.{no_twins, level_first, load_first, feasible_from, plan_kept}
use Rattle.plan_sim.proofs.simulation.verdict_of.Goals as goal

pub profit_of-requires-clause-twins : goal.profit_of-requires-clause-twins
profit_of-requires-clause-twins c = no_twins c.args.plant.now c.args.plan.now c.requires.sound c.requires.units.fit c.requires.units.apart

pub profit_of-requires-clause-kept : goal.profit_of-requires-clause-kept
profit_of-requires-clause-kept c = λ period within utility there. c.in-None.ensures.uses period (omega arith) within utility there

pub returns-in-Some-Level-clause-verdict : goal.returns-in-Some-Level-clause-verdict
returns-in-Some-Level-clause-verdict c = level_first c.args.plant.now c.args.plan.now c.args.stocks.now c.args.loads.now c.requires.stocks c.requires.loads c.in-Some-Level.state c.in-Some-Level.time c.level_violation.result c.requires.units (rw c.in-Some-Level.field-0-is at c.in-Some-Level.ensures) c.level_violation.ensures

pub returns-in-Some-Use-clause-verdict : goal.returns-in-Some-Use-clause-verdict
returns-in-Some-Use-clause-verdict c = load_first c.args.plant.now c.args.plan.now c.args.stocks.now c.args.loads.now c.requires.stocks c.requires.loads c.in-Some-Use.utility c.in-Some-Use.period c.requires.units (rw c.in-Some-Use.field-0-is at c.in-Some-Use.ensures)

pub returns-in-None-clause-verdict : goal.returns-in-None-clause-verdict
returns-in-None-clause-verdict c =
    let fits : SFits w128 c.profit_of.result = search rules in (
      feasible_from c.args.plant.now c.args.plan.now c.requires.units (plan_kept c.args.plant.now c.args.plan.now c.args.stocks.now c.args.loads.now c.requires.stocks c.requires.loads (c.args.plant.now.periods + 1) (omega arith) c.in-None.ensures),
      rw (to_z-of_z w128 c.profit_of.result fits) c.profit_of.ensures.value,
    )

pub returns-in-None-clause-feasible : goal.returns-in-None-clause-feasible
returns-in-None-clause-feasible c =
    (λ _. feasible_from c.args.plant.now c.args.plan.now c.requires.units (plan_kept c.args.plant.now c.args.plan.now c.args.stocks.now c.args.loads.now c.requires.stocks c.requires.loads (c.args.plant.now.periods + 1) (omega arith) c.in-None.ensures), λ _. refl)
