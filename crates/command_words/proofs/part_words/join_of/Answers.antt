use Rattle.std.proofs.Common.{ℕ, List, [], get_or, Bor, codes, arith, refl}
use Rattle.command_words.proofs.WordLemmas.{five_texts, five_words, not_empty}
use Rattle.command_words.specs.Words.{texts}
use Rattle.command_words.proofs.PartWords.{no_join}
use Rattle.command_words.proofs.part_words.join_of.Goals as goal

pub returns-in-Some : goal.returns-in-Some
returns-in-Some c =
    let no_word : Bor (List ℕ) = record { ref_ptr = (0, 0); now = [] } in
    let words = five_words c.args.words.now no_word (codes "join") (omega arith) (omega arith) c.if-eq.ensures in
    let said = c.in-Some.ensures in (
      (get_or c.args.words.now 2 no_word).now,
      (words, not_empty _ c.if-not-is_empty.ensures, not_empty _ c.if-not-is_empty-2.ensures, not_empty _ c.if-not-is_empty-3.ensures, c.if-differ.ensures.0 refl, said.1, said.0),
    )

pub returns-in-None : goal.returns-in-None
returns-in-None c =
    let no_word : Bor (List ℕ) = record { ref_ptr = (0, 0); now = [] } in
    no_join (texts c.args.words.now) _ _ _ _ _ (five_texts c.args.words.now no_word (omega arith) (omega arith)) c.in-None.ensures
