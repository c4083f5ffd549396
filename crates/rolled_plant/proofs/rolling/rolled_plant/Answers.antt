use Rattle.std.proofs.Common.{sym, subst, rules}
use Rattle.stn_model.specs.Sound.{Sound}
use Rattle.rolled_plant.proofs.RolledSound.{rolled_sound}
use Rattle.rolled_plant.proofs.rolling.rolled_plant.Goals as goal

pub returns-clause-sound : goal.returns-clause-sound
returns-clause-sound c =
    subst Sound (sym c.in_ok-made.ensures)
    (rolled_sound c.args.plant.now c.args.before.now c.args.period c.requires.sound c.requires.within c.requires.goes_on (c.fits_file.ensures.0 (search rules)))
