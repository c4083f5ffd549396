-- The plant that is made is the one within the horizon, which is sound.
use Rattle.std.proofs.Common.{◌≡◌, sym, subst}
use Rattle.std.proofs.lemmas.Result.{IfOk-weaker}
use Rattle.stn_model.specs.declared.plant.Plant.{Plant}
use Rattle.stn_model.specs.Sound.{Sound}
use Rattle.shorter_plant.specs.PlantAt.{plant_at}
use Rattle.shorter_plant.proofs.ShorterSound.{shorter_sound}
use Rattle.shorter_plant.proofs.shorter.plant_at.Goals as goal

pub returns-clause-still_sound : goal.returns-clause-still_sound
returns-clause-still_sound c =
    IfOk-weaker c.made.result _ _
    (λ (short : Plant) (is : short ≡ plant_at c.args.plant.now c.args.horizon). subst Sound (sym is) (shorter_sound c.args.plant.now c.args.horizon c.requires.sound c.requires.within))
    c.made.ensures
