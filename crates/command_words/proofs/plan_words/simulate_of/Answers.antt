use Rattle.std.proofs.Common.{ℕ, List, [], ◌∷◌, ◌∙◌, ap, sym, get_or, Bor, arith}
use Rattle.command_words.proofs.WordLemmas.{three_texts, not_empty}
use Rattle.command_words.specs.Words.{use_word}
use Rattle.command_words.proofs.plan_words.simulate_of.Goals as goal

pub returns-in-Some : goal.returns-in-Some
returns-in-Some c =
    let no_word : Bor (List ℕ) = record { ref_ptr = (0, 0); now = [] } in
    let plant = (get_or c.args.words.now 1 no_word).now in
    let plan = (get_or c.args.words.now 2 no_word).now in
    let words = three_texts c.args.words.now no_word (omega arith) (omega arith) in
    let first = ap (λ (x : List ℕ). x ∷ plant ∷ plan ∷ []) (sym c.in-Some.ensures.0) in
    let last = ap (λ (xs : List (List ℕ)). use_word c.in-Some.usage ∷ plant ∷ plan ∷ xs) (sym c.in-Some.ensures.1) in
    (words ∙ first ∙ last, not_empty _ c.if-not-is_empty.ensures, not_empty _ c.if-not-is_empty-2.ensures)
