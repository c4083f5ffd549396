-- The words of a line: what they are printed of.
use Rattle.std.proofs.Common.{◌≡◌, ◌≢◌, ℕ, ℤ, pos, ◌<◌, ◌^◌, true, false, not, eqb, All, List, [], ◌∷◌, ◌++◌, length, get_or, decimal, Option, Some, None, MatchOption, sym, ap, ◌∙◌, refl, arith, bytes_eq}
use Rattle.std.specs.Prelude.{codes}
use Rattle.std.specs.Fmt.{signed_decimal}
use Rattle.std.specs.List.{list_all}
use Rattle.std.proofs.lemmas.Bool.{false≢true}
use Rattle.std.proofs.lemmas.Bool.Decides.{nat_tests}
use Rattle.std.proofs.lemmas.List.Recursion.{and_at}
use Rattle.std.proofs.lemmas.List.Elements.{All-cons}
use Rattle.std.proofs.lemmas.Slice.Eq.{bytes_eq-Decides}
use Rattle.log_lines.specs.Numbers.{IsCut, IsWord}
use Rattle.log_lines.proofs.NumberTexts.{IsWord-signed, word_unique}
use Rattle.log_lines.proofs.SignedNumbers.{signed_decimal_injective_wide}
use Rattle.row_kit.specs.Row.{is_nothing}
use Rattle.text_words.proofs.Printed.{decimal-lacks}
use Rattle.sum_lines.specs.declared.line.HeadLine.{HeadLine}
use Rattle.sum_lines.specs.declared.line.HeadLine.TheVariants as line
use Rattle.sum_lines.specs.Line.{IsHeadLine, IsTermPart, IsShortRow, head_line_text, line_name, line_words, row_word, words_text}
use Rattle.sum_lines.specs.laws.Reading.{ReadsLine, ReadsRest}
use Rattle.sum_lines.specs.laws.Words.{AreWords, CutsWords}
use Rattle.sum_lines.proofs.WordTexts.{IsRest-words_text, words_unique}

-- ---- words without blanks

-- a text of which a test tells that it has no blank
pub tested : (text : List ℕ) → list_all (λ b. not (eqb b 32)) text ≡ true → IsWord text
tested text is = λ k d within. let tells : not (eqb (get_or text k d) 32) ≡ true = and_at (list_all (λ b. not (eqb b 32))) (λ b. not (eqb b 32)) refl (λ _ _. refl) text k d within is in grind (arith, nat_tests)

-- what is printed of a number has no blank
number_word : (n : ℕ) → n < 10 ^ 64 → IsWord (decimal n)
number_word n small = decimal-lacks n 32 small (λ r. omega arith)

-- what is printed of a row's number has no blank
row_is_word : (row : Option ℕ) → IsShortRow row → IsWord (row_word row)
row_is_word None short = tested (45 ∷ []) refl
row_is_word (Some n) short = number_word n (omega arith)

no_more : All IsWord []
no_more = λ k d within. absurd (omega arith)

three_are : (a b c : List ℕ) → IsWord a → IsWord b → IsWord c → All IsWord (a ∷ b ∷ c ∷ [])
three_are a b c is_a is_b is_c = All-cons IsWord a (b ∷ c ∷ []) is_a (All-cons IsWord b (c ∷ []) is_b (All-cons IsWord c [] is_c no_more))

five_are : (a b c d e : List ℕ) → IsWord a → IsWord b → IsWord c → IsWord d → IsWord e → All IsWord (a ∷ b ∷ c ∷ d ∷ e ∷ [])
five_are a b c d e is_a is_b is_c is_d is_e = All-cons IsWord a (b ∷ c ∷ d ∷ e ∷ []) is_a (All-cons IsWord b (c ∷ d ∷ e ∷ []) is_b (three_are c d e is_c is_d is_e))

-- the words of a line have no blanks
pub words_are : (line : HeadLine) → IsHeadLine line → All IsWord (line_words line)
words_are (line.Sum width offset low high count) is =
    five_are (decimal width) (signed_decimal offset) (row_word low) (row_word high) (decimal count) (number_word width (omega (arith, is.0.1))) (IsWord-signed offset (omega (arith, is.1))) (row_is_word low is.2) (row_is_word high is.3)
    (number_word count (omega (arith, is.4.1)))
words_are (line.Term slot fixed per) is =
    three_are (decimal slot) (signed_decimal fixed) (signed_decimal per) (number_word slot (omega (arith, is.0))) (IsWord-signed fixed (omega (arith, is.1))) (IsWord-signed per (omega (arith, is.2)))

-- the name of a line has no blanks
name_is_word : (line : HeadLine) → IsWord (line_name line)
name_is_word (line.Sum _ _ _ _ _) = tested (codes "sum") refl
name_is_word (line.Term _ _ _) = tested (codes "term") refl

-- ---- lines of words

-- a line of the words whose text this is
pub rest_read : (name rest : List ℕ) (words : List (List ℕ)) (answer : Option HeadLine) → AreWords rest words → ReadsLine name words answer → ReadsRest name rest answer
rest_read name rest words None are none = λ line is named same. none line is named (words_unique (line_words line) words (words_are line is) are.are (same ∙ are.is))
rest_read name rest words (Some line) are read = (read.0, read.1, ap words_text read.2 ∙ sym are.is)

-- a text that is not of so many words is that of no line
rest_none : (name rest : List ℕ) (count : ℕ) → ((line : HeadLine) → line_name line ≡ name → length (line_words line) ≡ count) → CutsWords count rest None → ReadsRest name rest None
rest_none name rest count long none line is named same = none (line_words line) (long line named) (record { are = words_are line is; is = sym same })

sum_long : (line : HeadLine) → line_name line ≡ codes "sum" → length (line_words line) ≡ 5
sum_long (line.Sum _ _ _ _ _) named = refl
sum_long (line.Term _ _ _) named = absurd (omega (arith, ap (λ w. get_or w 0 0) named))

term_long : (line : HeadLine) → line_name line ≡ codes "term" → length (line_words line) ≡ 3
term_long (line.Sum _ _ _ _ _) named = absurd (omega (arith, ap (λ w. get_or w 0 0) named))
term_long (line.Term _ _ _) named = refl

pub sum_none : (rest : List ℕ) → CutsWords 5 rest None → ReadsRest (codes "sum") rest None
sum_none rest none = rest_none (codes "sum") rest 5 sum_long none

pub term_none : (rest : List ℕ) → CutsWords 3 rest None → ReadsRest (codes "term") rest None
term_none rest none = rest_none (codes "term") rest 3 term_long none

-- words of which two are printed of no rows are those of no sum line
pub no_rows : (width offset low high count : List ℕ) → ((l h : Option ℕ) → IsShortRow l → IsShortRow h → low ≡ row_word l → high ≢ row_word h)
    → ReadsLine (codes "sum") (width ∷ offset ∷ low ∷ high ∷ count ∷ []) None
no_rows width offset low high count none (line.Sum w o l h c) is named same =
    none l h is.2 is.3 (sym (ap (λ ws. get_or ws 2 []) same)) (sym (ap (λ ws. get_or ws 3 []) same))
no_rows width offset low high count none (line.Term _ _ _) is named same = absurd (omega (arith, ap (λ w. get_or w 0 0) named))

-- words of which two are printed of no parts are those of no term line
pub no_parts : (slot fixed per : List ℕ) → ((f p : ℤ) → IsTermPart f → IsTermPart p → fixed ≡ signed_decimal f → per ≢ signed_decimal p)
    → ReadsLine (codes "term") (slot ∷ fixed ∷ per ∷ []) None
no_parts slot fixed per none (line.Sum _ _ _ _ _) is named same = absurd (omega (arith, ap (λ w. get_or w 0 0) named))
no_parts slot fixed per none (line.Term s f p) is named same =
    none f p is.1 is.2 (sym (ap (λ ws. get_or ws 1 []) same)) (sym (ap (λ ws. get_or ws 2 []) same))

-- words of which two are printed of 0 are those of no term line
pub no_counts : (slot fixed per : List ℕ) → fixed ≡ signed_decimal (pos 0) → per ≡ signed_decimal (pos 0) → ReadsLine (codes "term") (slot ∷ fixed ∷ per ∷ []) None
no_counts slot fixed per is_fixed is_per (line.Sum _ _ _ _ _) is named same = absurd (omega (arith, ap (λ w. get_or w 0 0) named))
no_counts slot fixed per is_fixed is_per (line.Term s f p) is named same =
    let zero_fixed : f ≡ pos 0 = signed_decimal_injective_wide f (pos 0) (omega (arith, is.1)) (omega arith) (ap (λ ws. get_or ws 1 []) same ∙ is_fixed) in
    let zero_per : p ≡ pos 0 = signed_decimal_injective_wide p (pos 0) (omega (arith, is.2)) (omega arith) (ap (λ ws. get_or ws 2 []) same ∙ is_per) in
    let none : is_nothing (f, p) ≡ true = rw (zero_fixed, zero_per) refl in
    false≢true (sym is.3 ∙ none)

-- ---- texts

-- the answer is the line whose text the bytes are, and none only where there is none
abbrev pub ReadsText : List ℕ → Option HeadLine → Type 0
ReadsText bytes answer = MatchOption answer ((line : HeadLine) → IsHeadLine line → head_line_text line ≢ bytes) (λ line. IsHeadLine line × (head_line_text line ≡ bytes))

-- a line's text is cut after its name
text_cut : (bytes name rest : List ℕ) (line : HeadLine) → IsCut bytes name rest → head_line_text line ≡ bytes → (line_name line ≡ name) × (words_text (line_words line) ≡ rest)
unfolding head_line_text
text_cut bytes name rest line cut same =
    word_unique (line_name line) (words_text (line_words line)) name rest (name_is_word line) cut.is_word (IsRest-words_text (line_words line)) cut.is_rest (same ∙ cut.is)

-- what was read of bytes that were cut after a name
pub text_read : (bytes name rest : List ℕ) (answer : Option HeadLine) → IsCut bytes name rest → ReadsRest name rest answer → ReadsText bytes answer
unfolding head_line_text
text_read bytes name rest None cut none = λ line is same. let parts = text_cut bytes name rest line cut same in none line is parts.0 parts.1
text_read bytes name rest (Some line) cut read = (read.0, ap (λ w. w ++ words_text (line_words line)) read.1 ∙ ap (λ w. name ++ w) read.2 ∙ sym cut.is)

-- bytes that begin with the name of no line are no line
other_name : (line : HeadLine) (name : List ℕ) → bytes_eq name (codes "sum") ≡ false → bytes_eq name (codes "term") ≡ false → line_name line ≢ name
other_name (line.Sum _ _ _ _ _) name not_sum not_term is = false≢true (sym not_sum ∙ (bytes_eq-Decides name (codes "sum")).1 (sym is))
other_name (line.Term _ _ _) name not_sum not_term is = false≢true (sym not_term ∙ (bytes_eq-Decides name (codes "term")).1 (sym is))

pub text_none : (bytes name rest : List ℕ) → IsCut bytes name rest → bytes_eq name (codes "sum") ≡ false → bytes_eq name (codes "term") ≡ false → ReadsText bytes None
text_none bytes name rest cut not_sum not_term line is same = other_name line name not_sum not_term (text_cut bytes name rest line cut same).0

-- the same, where the name is told by a test
pub named_read : (bytes name rest known : List ℕ) (answer : Option HeadLine) → IsCut bytes name rest → bytes_eq name known ≡ true → ReadsRest known rest answer → ReadsText bytes answer
named_read bytes name rest known answer cut is read = text_read bytes name rest answer cut (let same : name ≡ known = (bytes_eq-Decides name known).0 is in rw same read)

-- lines of one text have the same name and words
pub text_cut_line : (a b : HeadLine) → IsHeadLine a → IsHeadLine b → head_line_text a ≡ head_line_text b → (line_name a ≡ line_name b) × (line_words a ≡ line_words b)
unfolding head_line_text
text_cut_line a b is is2 same =
    let parts = text_cut (head_line_text b) (line_name b) (words_text (line_words b)) a (record { is_word = name_is_word b; is_rest = IsRest-words_text (line_words b); is = refl }) same in
    (parts.0, words_unique (line_words a) (line_words b) (words_are a is) (words_are b is2) parts.1)
