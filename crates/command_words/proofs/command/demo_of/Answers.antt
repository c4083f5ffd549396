use Rattle.std.proofs.Common.{ℕ, List, [], get_or, Bor, codes, arith}
use Rattle.command_words.proofs.WordLemmas.{two_words}
use Rattle.command_words.proofs.command.demo_of.Goals as goal

pub returns-in-Some : goal.returns-in-Some
returns-in-Some c =
    let no_word : Bor (List ℕ) = record { ref_ptr = (0, 0); now = [] } in
    let words = two_words c.args.words.now no_word (codes "demo") (omega arith) (omega arith) c.if-eq.ensures in
    ((get_or c.args.words.now 1 no_word).now, (words, c.in-Some.ensures))
