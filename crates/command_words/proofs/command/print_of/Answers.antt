use Rattle.std.proofs.Common.{ℕ, List, [], ◌∷◌, ◌∙◌, ap, sym, get_or, Bor, arith}
use Rattle.command_words.proofs.WordLemmas.{two_texts, not_empty}
use Rattle.command_words.proofs.command.print_of.Goals as goal

pub returns-in-Some : goal.returns-in-Some
returns-in-Some c =
    let no_word : Bor (List ℕ) = record { ref_ptr = (0, 0); now = [] } in
    let plant = (get_or c.args.words.now 1 no_word).now in
    let words = two_texts c.args.words.now no_word (omega arith) (omega arith) in
    let first = ap (λ (x : List ℕ). x ∷ plant ∷ []) (sym c.in-Some.ensures) in
    (words ∙ first, not_empty _ c.if-not-is_empty.ensures)
