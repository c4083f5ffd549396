use Rattle.std.proofs.Common.{arith}
use Rattle.log_lines.proofs.LineTexts.{bare_read, bare_unread}
use Rattle.log_lines.proofs.read.bare.Goals as goal

pub returns-then-is_empty : goal.returns-then-is_empty
returns-then-is_empty c = bare_read c.args.line c.args.rest.now c.requires.short c.requires.in_range (grind arith)

pub returns-else-is_empty : goal.returns-else-is_empty
returns-else-is_empty c = bare_unread c.args.line c.args.rest.now c.requires.short c.requires.in_range (grind arith)
