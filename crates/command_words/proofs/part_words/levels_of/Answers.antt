use Rattle.std.proofs.Common.{sym, ◌∙◌, arith}
use Rattle.std.proofs.lemmas.Fmt.{decimal_injective}
use Rattle.command_words.proofs.part_words.levels_of.Goals as goal

pub returns-in_default : goal.returns-in_default
returns-in_default c = λ n levels.
    let same = decimal_injective n c.in-Some.number (omega (arith, levels.most)) (omega arith) (sym levels.digits ∙ (sym c.as_bytes.ensures.value ∙ c.in-Some.ensures.printed.1)) in
    omega (arith, levels.some, same)
