use Rattle.std.proofs.Common.{ℕ, subst}
use Rattle.command_words.specs.Words.{IsPartNumber}
use Rattle.command_words.proofs.PartWords.{same_levels}
use Rattle.command_words.proofs.part_words.part_of.Goals as goal

pub returns-in-None-number_of : goal.returns-in-None-number_of
returns-in-None-number_of c = λ n part is number.
    let same = same_levels c.args.levels.now n c.in-Some.levels.number is c.in-Some.ensures in
    c.in-None-number_of.ensures part (subst (λ (m : ℕ). IsPartNumber c.args.number.now m part) same number)
