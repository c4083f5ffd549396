-- Stands in specs/ since clauses of private functions cite it; no public clause does.
-- How the words of a line are cut: one after another, each after a blank.
use Rattle.std.specs.Prelude.{◌≡◌, ℕ, Option, MatchOption, List, ◌∷◌, ◌++◌, length}
use Rattle.std.specs.List.{All}
use Rattle.log_lines.specs.Numbers.{IsRest, IsWord}
use Rattle.sum_lines.specs.Line.{words_text}

-- a text is that of words without blanks
pub record AreWords (text : List ℕ) (words : List (List ℕ)) : Type 0 where
  pub are : All IsWord words
  pub is : text ≡ words_text words

-- the answer is the so many words whose text this is, and none only where it is the text of no such words
abbrev pub CutsWords : ℕ → List ℕ → Option (List (List ℕ)) → Type 0
CutsWords count text answer =
    MatchOption answer ((words : List (List ℕ)) → length words ≡ count → ¬ AreWords text words) (λ words. AreWords text words)

-- a word stands first in a text after a blank (32), and the rest follows
pub record IsFirstWord (text word rest : List ℕ) : Type 0 where
  pub is_word : IsWord word
  pub is_rest : IsRest rest
  pub is : text ≡ 32 ∷ (word ++ rest)

-- the answer is the word that stands first and what follows, and none only where none does
abbrev pub CutsFirst : List ℕ → Option (List ℕ × List ℕ) → Type 0
CutsFirst text answer =
    MatchOption answer ((word rest : List ℕ) → ¬ IsFirstWord text word rest) (λ cut. IsFirstWord text cut.0 cut.1)
