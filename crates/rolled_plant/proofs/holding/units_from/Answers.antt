use Rattle.std.proofs.Common.{◌<◌, List, [], ◌∷◌, ◌++◌, length, sym, ap₂, ◌∙◌, arith}
use Rattle.stn_model.specs.declared.plant.StnUnit.{StnUnit}
use Rattle.stn_model.specs.Plant.{no_unit}
use Rattle.rolled_plant.specs.RolledPlant.{rolled_unit}
use Rattle.rolled_plant.proofs.Listing.{map_from_more}
use Rattle.rolled_plant.proofs.holding.units_from.Goals as goal

pub loop-number-preserved : goal.loop-number-preserved
loop-number-preserved c =
    let plant = c.args.plant.now in
    let there : c.loop-number.number < length plant.units = omega arith in
    c.in_ok-push.ensures.ok
    ∙ ap₂ (λ (xs : List StnUnit) (x : StnUnit). xs ++ x ∷ []) c.loop-number.invariant c.in_ok-unit_from.ensures
    ∙ sym (map_from_more (rolled_unit plant c.args.before.now c.args.period) plant.units c.loop-number.number no_unit there)
