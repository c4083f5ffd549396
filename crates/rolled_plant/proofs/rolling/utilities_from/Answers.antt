use Rattle.std.proofs.Common.{◌<◌, List, [], ◌∷◌, ◌++◌, length, sym, ap₂, ◌∙◌, arith}
use Rattle.stn_model.specs.declared.plant.Utility.{Utility}
use Rattle.stn_model.specs.Plant.{no_utility}
use Rattle.rolled_plant.specs.RolledPlant.{rolled_utility}
use Rattle.rolled_plant.proofs.Listing.{map_from_more}
use Rattle.rolled_plant.proofs.rolling.utilities_from.Goals as goal

pub loop-number-preserved : goal.loop-number-preserved
loop-number-preserved c =
    let plant = c.args.plant.now in
    let there : c.loop-number.number < length plant.utilities = omega arith in
    c.in_ok-push.ensures.ok
    ∙ ap₂ (λ (xs : List Utility) (x : Utility). xs ++ x ∷ []) c.loop-number.invariant c.in_ok-utility_from.ensures
    ∙ sym (map_from_more (rolled_utility plant c.args.before.now c.args.period) plant.utilities c.loop-number.number no_utility there)
