use Rattle.plant_make.proofs.Names.{label_utf8}
use Rattle.plant_make.proofs.naming.put_label.Goals as goal

pub put_text-requires : goal.put_text-requires
put_text-requires c = label_utf8 c.args.label.now c.requires
