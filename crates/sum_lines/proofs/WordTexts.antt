-- Words that stand one after another in a text, each after a blank.
use Rattle.std.proofs.Common.{◌≡◌, ℕ, suc, ◌+◌, ◌<◌, All, List, [], ◌∷◌, ◌++◌, length, drop, None, sym, ap, ◌∙◌, refl, arith}
use Rattle.std.proofs.lemmas.List.Elements.{All-cons}
use Rattle.log_lines.specs.Numbers.{IsRest, IsWord}
use Rattle.log_lines.proofs.NumberTexts.{word_unique}
use Rattle.sum_lines.specs.Line.{words_text}
use Rattle.sum_lines.specs.laws.Words.{AreWords, CutsFirst, CutsWords, IsFirstWord}

-- words follow after a blank
pub IsRest-words_text : (words : List (List ℕ)) → IsRest (words_text words)
unfolding words_text
IsRest-words_text [] = λ some. omega arith
IsRest-words_text (word ∷ words) = λ some. refl

-- the others of words without blanks are such words
pub words_tail : (word : List ℕ) (words : List (List ℕ)) → All IsWord (word ∷ words) → All IsWord words
words_tail word words are = λ k d within. are (suc k) d (omega arith)

-- the first of words without blanks is such a word
pub words_head : (word : List ℕ) (words : List (List ℕ)) → All IsWord (word ∷ words) → IsWord word
words_head word words are = are 0 [] (omega arith)

-- words begin with one that stands first in their text
pub first_of : (text word : List ℕ) (words : List (List ℕ)) → AreWords text (word ∷ words) → IsFirstWord text word (words_text words)
unfolding words_text
first_of text word words are = record { is_word = words_head word words are.are; is_rest = IsRest-words_text words; is = are.is }

-- words that stand first in one text are the same
pub first_unique : {text word word2 rest rest2 : List ℕ} → IsFirstWord text word rest → IsFirstWord text word2 rest2 → (word ≡ word2) × (rest ≡ rest2)
first_unique {word = word} {word2 = word2} {rest = rest} {rest2 = rest2} one two =
    word_unique word rest word2 rest2 one.is_word two.is_word one.is_rest two.is_rest (ap (drop 1) (sym one.is ∙ two.is))

-- no word stands first
pub words_none : (count : ℕ) (text : List ℕ) → 0 < count → CutsFirst text None → CutsWords count text None
words_none count text some none [] long are = absurd (omega arith)
words_none count text some none (word ∷ words) long are = none word (words_text words) (first_of text word words are)

-- a word stands first, and not as many words follow
pub words_stop : (count : ℕ) (text word rest : List ℕ) → IsFirstWord text word rest → CutsWords count rest None → CutsWords (count + 1) text None
words_stop count text word rest first none [] long are = absurd (omega arith)
words_stop count text word rest first none (other ∷ words) long are =
    let same = first_unique first (first_of text other words are) in
    none words (omega arith) (record { are = words_tail other words are.are; is = same.1 })

-- a word stands first, and words follow
pub words_more : (text word rest : List ℕ) (words : List (List ℕ)) → IsFirstWord text word rest → AreWords rest words → AreWords text (word ∷ words)
unfolding words_text
words_more text word rest words first are =
    record { are = All-cons IsWord word words first.is_word are.are; is = first.is ∙ ap (λ w. 32 ∷ (word ++ w)) are.is }

-- nothing is no words
no_words : (rest : List ℕ) → length rest ≡ 0 → AreWords rest []
unfolding words_text
no_words [] empty = record { are = λ k d within. absurd (omega arith); is = refl }
no_words (byte ∷ rest) empty = absurd (omega arith)

-- a word stands first, and nothing follows
pub words_one : (text word rest : List ℕ) → IsFirstWord text word rest → length rest ≡ 0 → AreWords text (word ∷ [])
words_one text word rest first empty = words_more text word rest [] first (no_words rest empty)

-- a word stands first, and something follows
pub words_longer : (text word rest : List ℕ) → IsFirstWord text word rest → 0 < length rest → CutsWords 1 text None
unfolding words_text
words_longer text word rest first some [] long are = absurd (omega arith)
words_longer text word rest first some (other ∷ []) long are = omega (arith, ap length (first_unique first (first_of text other [] are)).1)
words_longer text word rest first some (other ∷ next ∷ words) long are = absurd (omega arith)

-- words without blanks of one text are the same
pub words_unique : (words others : List (List ℕ)) → All IsWord words → All IsWord others → words_text words ≡ words_text others → words ≡ others
unfolding words_text
words_unique [] [] are are2 same = refl
words_unique [] (other ∷ others) are are2 same = absurd (omega (arith, ap length same))
words_unique (word ∷ words) [] are are2 same = absurd (omega (arith, ap length same))
words_unique (word ∷ words) (other ∷ others) are are2 same =
    let one = first_of (words_text (word ∷ words)) word words (record { are = are; is = refl }) in
    let two = first_of (words_text (word ∷ words)) other others (record { are = are2; is = same }) in
    let firsts = first_unique one two in
    rw (firsts.0, words_unique words others (words_tail word words are) (words_tail other others are2) firsts.1) refl
