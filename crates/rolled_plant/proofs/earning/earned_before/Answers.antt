use Rattle.std.proofs.Common.{◌≡◌, ap, ap₂, ◌∙◌, [], arith}
use Rattle.std.specs.Prelude.{◌-ℤ◌}
use Rattle.std.proofs.lemmas.Int.{ints}
use mir.Val.{to_z, of_z}
use mir.Syntax.{w128}
use Rattle.stn_model.specs.declared.plant.Plant.{Plant}
use Rattle.stn_model.specs.Profit.{profit}
use Rattle.stn_model.specs.Violations.{no_start}
use Rattle.plan_sim.proofs.Firsts.{no_twins}
use Rattle.rolled_plant.specs.RollLaw.{earned_before}
use Rattle.rolled_plant.proofs.earning.earned_before.Goals as goal

pub profit_of-requires-clause-twins : goal.profit_of-requires-clause-twins
profit_of-requires-clause-twins c =
    let on = c.requires.goes_on in
    no_twins c.args.plant.now c.args.before.now c.requires.sound (λ k l. on.fits k no_start l) (λ i h j less l. on.apart i j no_start less l)

pub returns : goal.returns
unfolding earned_before
returns c =
    let x = c.profit_of.result in
    let y = c.idle_profit.result in
    let plain : to_z w128 (of_z w128 (to_z w128 (of_z w128 x) -ℤ to_z w128 (of_z w128 y))) ≡ x -ℤ y = omega (arith, ints, c.profit_of.ensures.small, c.idle_profit.ensures.small) in
    plain ∙ ap₂ ◌-ℤ◌ c.profit_of.ensures.value (c.idle_profit.ensures.value ∙ ap (λ (plant : Plant). profit plant []) c.requires.made)
