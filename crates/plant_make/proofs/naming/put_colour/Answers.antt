use Rattle.plant_make.proofs.Names.{colour_utf8}
use Rattle.plant_make.proofs.naming.put_colour.Goals as goal

pub put_text-requires : goal.put_text-requires
put_text-requires c = colour_utf8 c.args.colour.now c.requires
