use Rattle.std.proofs.Common.{sym, ◌∙◌, arith}
use Rattle.std.proofs.lemmas.Fmt.{decimal_injective}
use Rattle.command_words.proofs.StepWords.{no_fall}
use Rattle.command_words.proofs.log_words.fall_of.Goals as goal

pub returns-then-number-eq0 : goal.returns-then-number-eq0
returns-then-number-eq0 c =
    no_fall c.args.digits.now (λ n small is. let same = decimal_injective n c.in-Some.number (omega (arith, small)) (omega arith) (sym is ∙ c.in-Some.ensures.printed.1) in omega (arith, same))

pub returns-in-None : goal.returns-in-None
returns-in-None c = no_fall c.args.digits.now (λ n small is. absurd (c.in-None.ensures.printed n (omega (arith, small)) is))
