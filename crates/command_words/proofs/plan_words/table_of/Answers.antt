use Rattle.std.proofs.Common.{ℕ, List, [], ◌∷◌, ◌∙◌, ap, sym, get_or, Bor, codes, arith}
use Rattle.command_words.proofs.WordLemmas.{four_words, not_empty}
use Rattle.command_words.proofs.plan_words.table_of.Goals as goal

pub returns-in-Some : goal.returns-in-Some
returns-in-Some c =
    let no_word : Bor (List ℕ) = record { ref_ptr = (0, 0); now = [] } in
    let plant = (get_or c.args.words.now 1 no_word).now in
    let plan = (get_or c.args.words.now 2 no_word).now in
    let words = four_words c.args.words.now no_word (codes "table") (omega arith) (omega arith) c.if-eq.ensures in
    let last = ap (λ (xs : List (List ℕ)). codes "table" ∷ plant ∷ plan ∷ xs) (sym c.in-Some.ensures) in
    (words ∙ last, not_empty _ c.if-not-is_empty.ensures, not_empty _ c.if-not-is_empty-2.ensures)
