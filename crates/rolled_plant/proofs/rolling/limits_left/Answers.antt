use Rattle.std.proofs.Common.{ℕ, ◌-◌, ◌<◌, List, [], ◌∷◌, ◌++◌, length, sym, ap₂, ◌∙◌, arith}
use Rattle.stn_model.specs.Load.{load}
use Rattle.stn_model.specs.Plant.{utility_at, no_utility}
use Rattle.rolled_plant.proofs.Listing.{map_left_more}
use Rattle.rolled_plant.proofs.rolling.limits_left.Goals as goal

pub loop-time-preserved : goal.loop-time-preserved
loop-time-preserved c =
    let plant = c.args.plant.now in
    let limits = (utility_at plant c.args.number).limits in
    let long = (c.requires.sound.utilities c.args.number no_utility c.requires.there).limits in
    let there : c.loop-time.time < length limits = omega (arith, long) in
    let left = λ (time limit : ℕ). limit - load plant c.args.before.now c.args.number time in
    c.in_ok-push.ensures.ok
    ∙ ap₂ (λ (xs : List ℕ) (x : ℕ). xs ++ x ∷ []) c.loop-time.invariant c.limit_left.ensures
    ∙ sym (map_left_more left c.args.period limits c.loop-time.time 0 (omega arith) there)
