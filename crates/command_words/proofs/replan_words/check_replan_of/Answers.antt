use Rattle.std.proofs.Common.{ℕ, List, [], get_or, Bor, codes, arith}
use Rattle.command_words.proofs.WordLemmas.{five_words, not_empty}
use Rattle.command_words.proofs.replan_words.check_replan_of.Goals as goal

pub returns-in-Some : goal.returns-in-Some
returns-in-Some c =
    let no_word : Bor (List ℕ) = record { ref_ptr = (0, 0); now = [] } in
    let words = five_words c.args.words.now no_word (codes "check-replan") (omega arith) (omega arith) c.if-eq.ensures in
    ((get_or c.args.words.now 3 no_word).now, (words, not_empty _ c.if-not-is_empty.ensures, not_empty _ c.if-not-is_empty-2.ensures, not_empty _ c.if-not-is_empty-3.ensures, c.in-Some.ensures))
