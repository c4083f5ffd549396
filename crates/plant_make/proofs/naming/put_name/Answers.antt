use Rattle.plant_make.proofs.Names.{name_utf8}
use Rattle.plant_make.proofs.naming.put_name.Goals as goal

pub text_value-requires : goal.text_value-requires
text_value-requires c = name_utf8 c.args.name.now c.requires
