use Rattle.log_lines.proofs.LineTexts.{line_unread}
use Rattle.log_lines.proofs.read.floor.Goals as goal

pub returns-in-None : goal.returns-in-None
returns-in-None c = line_unread _ c.args.rest.now c.in-None.ensures
