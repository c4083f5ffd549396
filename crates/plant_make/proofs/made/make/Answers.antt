use Rattle.plant_make.proofs.MadeSound.{made_sound}
use Rattle.plant_make.proofs.made.make.Goals as goal

pub returns-clause-sound : goal.returns-clause-sound
returns-clause-sound c = rw c.in_ok-fill.ensures (made_sound c.args.seed c.args.chains c.requires.some c.requires.most)
