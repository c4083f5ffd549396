-- The plant that is made has these deliveries alone, and is sound.
use Rattle.std.proofs.Common.{◌≡◌, sym, subst}
use Rattle.std.proofs.lemmas.Result.{IfOk-weaker}
use Rattle.stn_model.specs.declared.plant.Plant.{Plant}
use Rattle.stn_model.specs.Sound.{Sound}
use Rattle.fewer_orders.specs.Alone.{alone}
use Rattle.fewer_orders.proofs.FewerSound.{fewer_sound}
use Rattle.fewer_orders.proofs.orders.alone.Goals as goal

pub returns-clause-still_sound : goal.returns-clause-still_sound
returns-clause-still_sound c =
    IfOk-weaker c.made.result _ _
    (λ (fewer : Plant) (is : fewer ≡ alone c.args.plant.now c.args.kept.now). subst Sound (sym is) (fewer_sound c.args.plant.now c.args.kept.now c.requires.each c.requires.sound))
    c.made.ensures
