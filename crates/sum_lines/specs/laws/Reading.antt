-- Stands in specs/ since clauses of private functions cite it; no public clause does.
-- How words and lines are read.
use Rattle.std.specs.Prelude.{◌≡◌, ◌≢◌, ℕ, Option, MatchOption, List}
use Rattle.sum_lines.specs.declared.line.HeadLine.{HeadLine}
use Rattle.sum_lines.specs.Line.{IsHeadLine, line_name, line_words, words_text}

-- the answer is what the word is the text of, among what may be written, and none only where there is no such thing
abbrev pub ReadsWord : {X : Type 0} → (X → Type 0) → (X → List ℕ) → List ℕ → Option X → Type 0
ReadsWord {X} may text word answer = MatchOption answer ((x : X) → may x → word ≢ text x) (λ x. may x × (word ≡ text x))

-- the same of two words
abbrev pub ReadsPair : {X Y : Type 0} → (X → Type 0) → (X → List ℕ) → (Y → Type 0) → (Y → List ℕ) → List ℕ → List ℕ → Option (X × Y) → Type 0
ReadsPair {X} {Y} may text may2 text2 word word2 answer =
    MatchOption answer ((x : X) (y : Y) → may x → may2 y → word ≡ text x → word2 ≢ text2 y)
    (λ read. may read.0 × may2 read.1 × (word ≡ text read.0) × (word2 ≡ text2 read.1))

-- the answer is the line of this name with these words, and none only where there is none
abbrev pub ReadsLine : List ℕ → List (List ℕ) → Option HeadLine → Type 0
ReadsLine name words answer =
    MatchOption answer ((line : HeadLine) → IsHeadLine line → line_name line ≡ name → line_words line ≢ words)
    (λ line. IsHeadLine line × (line_name line ≡ name) × (line_words line ≡ words))

-- the answer is the line of this name whose words' text follows the name, and none only where there is none
abbrev pub ReadsRest : List ℕ → List ℕ → Option HeadLine → Type 0
ReadsRest name rest answer =
    MatchOption answer ((line : HeadLine) → IsHeadLine line → line_name line ≡ name → words_text (line_words line) ≢ rest)
    (λ line. IsHeadLine line × (line_name line ≡ name) × (words_text (line_words line) ≡ rest))
