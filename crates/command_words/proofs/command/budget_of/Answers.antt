use Rattle.std.proofs.Common.{sym, ◌∙◌, arith}
use Rattle.std.proofs.lemmas.Fmt.{decimal_injective}
use Rattle.command_words.proofs.command.budget_of.Goals as goal

pub returns-in_default : goal.returns-in_default
returns-in_default c = λ n budget.
    let same = decimal_injective n c.in-Some.number (omega (arith, budget.most)) (omega arith) (sym budget.digits ∙ (sym c.as_bytes.ensures.value ∙ c.in-Some.ensures.printed.1)) in
    omega (arith, budget.some, same)
