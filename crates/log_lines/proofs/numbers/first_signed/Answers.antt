use Rattle.std.proofs.Common.{true}
use Rattle.log_lines.proofs.NumberTexts.{first_none}
use Rattle.log_lines.proofs.numbers.first_signed.Goals as goal

pub returns-in-None-read_signed : goal.returns-in-None-read_signed
returns-in-None-read_signed c = first_none true c.args.text.now c.in-Some.ensures.1 c.in-Some.ensures.2 (λ number short sign. c.in-None-read_signed.ensures number short)
