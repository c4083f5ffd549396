use Rattle.std.proofs.Common.{sym, ◌∙◌, arith}
use Rattle.text_words.proofs.Digits.{decimal_injective_wide}
use Rattle.log_lines.proofs.SignedNumbers.{no_negative}
use Rattle.log_lines.proofs.number.read_negative.Goals as goal

pub returns-then-number-eq0 : goal.returns-then-number-eq0
returns-then-number-eq0 c =
    no_negative c.args.digits.now (λ n small is. let same = decimal_injective_wide n c.in-Some.number (omega arith) (omega arith) (sym is ∙ c.in-Some.ensures.1) in omega arith)

pub returns-in-None : goal.returns-in-None
returns-in-None c = no_negative c.args.digits.now (λ n small is. absurd (c.in-None.ensures n small is))
