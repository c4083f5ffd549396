use Rattle.std.proofs.Common.{false}
use Rattle.log_lines.proofs.NumberTexts.{first_none, no_natural}
use Rattle.log_lines.proofs.numbers.first_natural.Goals as goal

pub returns-in-None-read_natural : goal.returns-in-None-read_natural
returns-in-None-read_natural c =
    first_none false c.args.text.now c.in-Some.ensures.1 c.in-Some.ensures.2 (no_natural c.in-Some.word.now c.in-None-read_natural.ensures)
