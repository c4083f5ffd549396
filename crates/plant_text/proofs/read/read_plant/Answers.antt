use Rattle.plant_text.proofs.SoundPlant.{read_sound, read_gives}
use Rattle.plant_text.proofs.read.read_plant.Goals as goal

pub returns-clause-reads : goal.returns-clause-reads
returns-clause-reads c = read_gives c.args.bytes.now c.read.result c.read.ensures

pub returns-clause-sound : goal.returns-clause-sound
returns-clause-sound c = read_sound c.args.bytes.now c.read.result c.read.ensures
