use Rattle.std.proofs.Common.{ℕ, List, [], ◌∷◌, ◌∙◌, ap, get_or, Bor, codes, arith}
use Rattle.std.specs.Cmp.Lexicographic.{same_text}
use Rattle.command_words.proofs.WordLemmas.{five_words, not_empty}
use Rattle.command_words.proofs.plan_words.rest_of.Goals as goal

pub returns-in-Some : goal.returns-in-Some
returns-in-Some c =
    let no_word : Bor (List ℕ) = record { ref_ptr = (0, 0); now = [] } in
    let plant = (get_or c.args.words.now 1 no_word).now in
    let plan = (get_or c.args.words.now 2 no_word).now in
    let from = (get_or c.args.words.now 3 no_word).now in
    let words = five_words c.args.words.now no_word (codes "roll") (omega arith) (omega arith) c.if-eq.ensures in
    let last = ap (λ (x : List ℕ). codes "roll" ∷ plant ∷ plan ∷ from ∷ x ∷ []) (same_text _ _ c.if-eq-2.ensures) in
    (from, (words ∙ last, not_empty _ c.if-not-is_empty.ensures, not_empty _ c.if-not-is_empty-2.ensures, c.in-Some.ensures))
