use Rattle.std.proofs.Common.{◌<◌, List, [], ◌∷◌, ◌++◌, length, sym, ap₂, ◌∙◌, arith}
use Rattle.stn_model.specs.declared.plant.State.{State}
use Rattle.stn_model.specs.Plant.{no_state}
use Rattle.rolled_plant.specs.RolledPlant.{rolled_state}
use Rattle.rolled_plant.proofs.Listing.{map_from_more}
use Rattle.rolled_plant.proofs.rolling.states_from.Goals as goal

pub loop-number-preserved : goal.loop-number-preserved
loop-number-preserved c =
    let plant = c.args.carried.now.plant.now in
    let there : c.loop-number.number < length plant.states = omega arith in
    c.in_ok-push.ensures.ok
    ∙ ap₂ (λ (xs : List State) (x : State). xs ++ x ∷ []) c.loop-number.invariant c.in_ok-state_from.ensures
    ∙ sym (map_from_more (rolled_state plant c.args.carried.now.before.now c.args.carried.now.period) plant.states c.loop-number.number no_state there)
