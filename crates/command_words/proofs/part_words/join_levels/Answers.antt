use Rattle.std.proofs.Common.{ℕ, subst}
use Rattle.std.proofs.lemmas.Bool.{false≢true}
use Rattle.command_words.specs.Words.{IsNoPartLog}
use Rattle.command_words.proofs.PartWords.{same_levels}
use Rattle.command_words.proofs.part_words.join_levels.Goals as goal

pub returns-else-is_no_part_log : goal.returns-else-is_no_part_log
returns-else-is_no_part_log c = λ n is apart.
    let same = same_levels c.args.word.now n c.in-Some.levels.number is c.in-Some.ensures in
    false≢true (c.if-is_no_part_log.ensures.1 (subst (λ (m : ℕ). IsNoPartLog c.args.log.now c.args.stem.now m) same apart))
