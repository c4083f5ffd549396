use Rattle.std.proofs.Common.{sym, ◌∙◌, arith}
use Rattle.std.proofs.lemmas.Fmt.{decimal_injective}
use Rattle.command_words.proofs.command.horizon_of.Goals as goal

pub returns-in_default : goal.returns-in_default
returns-in_default c = λ n horizon.
    let same = decimal_injective n c.in-Some.number (omega (arith, horizon.most)) (omega arith) (sym horizon.digits ∙ (sym c.as_bytes.ensures.value ∙ c.in-Some.ensures.printed.1)) in
    omega (arith, horizon.some, same)
