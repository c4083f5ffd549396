use Rattle.std.proofs.Common.{sym, ◌∙◌, arith}
use Rattle.std.proofs.lemmas.Fmt.{decimal_injective}
use Rattle.command_words.proofs.log_words.count_of.Goals as goal

pub returns-in_default : goal.returns-in_default
returns-in_default c = λ n count.
    let same = decimal_injective n c.in-Some.number (omega (arith, count.most)) (omega arith) (sym count.digits ∙ (sym c.as_bytes.ensures.value ∙ c.in-Some.ensures.printed.1)) in
    omega (arith, count.some, same)
