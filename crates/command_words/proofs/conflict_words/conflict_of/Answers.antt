use Rattle.std.proofs.Common.{ℕ, List, [], get_or, Bor, codes, arith}
use Rattle.command_words.proofs.WordLemmas.{three_words, not_empty}
use Rattle.command_words.proofs.conflict_words.conflict_of.Goals as goal

pub returns-in-Some : goal.returns-in-Some
returns-in-Some c =
    let no_word : Bor (List ℕ) = record { ref_ptr = (0, 0); now = [] } in
    let words = three_words c.args.words.now no_word (codes "conflict") (omega arith) (omega arith) c.if-eq.ensures in
    ((get_or c.args.words.now 2 no_word).now, (words, not_empty _ c.if-not-is_empty.ensures, c.in-Some.ensures))
