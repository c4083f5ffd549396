-- Lines and their line feeds.
use Rattle.std.proofs.Common.{◌≡◌, ◌≢◌, ℕ, ℤ, pos, negsuc, suc, ◌+◌, ◌<◌, ◌≤◌, ◌^◌, Bool, true, false, not, cond, eqb, List, [], ◌∷◌, ◌++◌, length, length-append, drop, get_or, decimal, Option, Some, None, unsigned_abs, sym, ap, ◌∙◌, refl, arith}
use Rattle.std.specs.Prelude.{codes}
use Rattle.std.specs.Fmt.{signed_decimal}
use Rattle.std.specs.List.{list_all}
use Rattle.std.proofs.lemmas.Bool.Decides.{nat_tests}
use Rattle.std.proofs.lemmas.Fmt.{length-decimal-le_wide}
use Rattle.std.proofs.lemmas.List.Elements.{All-append, All-cons}
use Rattle.std.proofs.lemmas.List.Recursion.{and_at}
use Rattle.log_lines.specs.Reader.{HasNoFeed, line_length}
use Rattle.log_lines.proofs.SignedNumbers.{signed_decimal_injective_wide}
use Rattle.text_words.proofs.Digits.{decimal_injective_wide}
use Rattle.text_words.proofs.Printed.{decimal-lacks}
use Rattle.sum_lines.specs.declared.line.HeadLine.{HeadLine}
use Rattle.sum_lines.specs.declared.line.HeadLine.TheVariants as line
use Rattle.sum_lines.specs.Front.{BeginsWith, EndsEarly}
use Rattle.sum_lines.specs.Line.{IsHeadLine, IsShortRow, head_line_text, line_name, line_words, row_word, words_text}
use Rattle.sum_lines.proofs.LineWords.{text_cut_line}
use Rattle.sum_lines.proofs.NumberWords.{no_minus}

-- ---- no line feed in a line, and few bytes

-- a word without line feed, of at most 31 bytes
IsFit : List ℕ → Type 0
IsFit word = HasNoFeed word × (length word ≤ 31)

pub tested : (bytes : List ℕ) → list_all (λ b. not (eqb b 10)) bytes ≡ true → HasNoFeed bytes
tested bytes is = λ k d within. let tells : not (eqb (get_or bytes k d) 10) ≡ true = and_at (list_all (λ b. not (eqb b 10))) (λ b. not (eqb b 10)) refl (λ _ _. refl) bytes k d within is in grind (arith, nat_tests)

pub no_feed_number : (n : ℕ) → n < 10 ^ 64 → HasNoFeed (decimal n)
no_feed_number n small = λ k d within. let lacks : eqb (get_or (decimal n) k d) 10 ≡ false = decimal-lacks n 10 small (λ r. omega arith) k d within in grind (arith, nat_tests)

fit_number : (n : ℕ) → n < 10 ^ 30 → HasNoFeed (decimal n) × (length (decimal n) ≤ 31)
fit_number n short = (no_feed_number n (omega arith), omega (arith, length-decimal-le_wide 30 n (omega arith) (omega arith) (omega arith)))

fit_signed : (number : ℤ) → unsigned_abs number < 10 ^ 30 → HasNoFeed (signed_decimal number) × (length (signed_decimal number) ≤ 31)
fit_signed (pos n) short = fit_number n short
fit_signed (negsuc n) short =
    (All-cons (λ b. b ≢ 10) 45 (decimal (suc n)) (omega arith) (no_feed_number (suc n) (omega arith)), omega (arith, length-decimal-le_wide 30 (suc n) (omega arith) (omega arith) (omega arith)))

fit_row : (row : Option ℕ) → IsShortRow row → HasNoFeed (row_word row) × (length (row_word row) ≤ 31)
fit_row None short = (tested (45 ∷ []) refl, omega arith)
fit_row (Some n) short = fit_number n short

-- a word before others that are fit
fit_on : (word : List ℕ) (words : List (List ℕ)) (n : ℕ) → HasNoFeed word × (length word ≤ 31) → HasNoFeed (words_text words) × (length (words_text words) ≤ n) → HasNoFeed (words_text (word ∷ words)) × (length (words_text (word ∷ words)) ≤ n + 32)
unfolding words_text
fit_on word words n fit others =
    (All-cons (λ b. b ≢ 10) 32 (word ++ words_text words) (omega arith) (All-append (λ b. b ≢ 10) word (words_text words) fit.0 others.0), omega (arith, length-append word (words_text words), fit.1, others.1))

fit_off : HasNoFeed (words_text []) × (length (words_text []) ≤ 0)
unfolding words_text
fit_off = (λ k d within. absurd (omega arith), omega arith)

fit_name : (name text : List ℕ) (n : ℕ) → HasNoFeed name → length name ≤ 4 → HasNoFeed text × (length text ≤ n) → n ≤ 196 → HasNoFeed (name ++ text) × (length (name ++ text) ≤ 200)
fit_name name text n plain short others few = (All-append (λ b. b ≢ 10) name text plain others.0, omega (arith, length-append name text, others.1))

-- the text of a line has no line feed, and at most 200 bytes
pub text_fits : (line : HeadLine) → IsHeadLine line → HasNoFeed (head_line_text line) × (length (head_line_text line) ≤ 200)
unfolding head_line_text
text_fits (line.Sum width offset low high count) is =
    let e = fit_on (decimal count) [] 0 (fit_number count (omega (arith, is.4.1))) fit_off in
    let d = fit_on (row_word high) (decimal count ∷ []) 32 (fit_row high is.3) e in
    let c = fit_on (row_word low) (row_word high ∷ decimal count ∷ []) 64 (fit_row low is.2) d in
    let b = fit_on (signed_decimal offset) (row_word low ∷ row_word high ∷ decimal count ∷ []) 96 (fit_signed offset (omega (arith, is.1))) c in
    let a = fit_on (decimal width) (signed_decimal offset ∷ row_word low ∷ row_word high ∷ decimal count ∷ []) 128 (fit_number width (omega (arith, is.0.1))) b in
    fit_name (codes "sum") (words_text (decimal width ∷ signed_decimal offset ∷ row_word low ∷ row_word high ∷ decimal count ∷ [])) 160 (tested (codes "sum") refl) (omega arith) a (omega arith)
text_fits (line.Term slot fixed per) is =
    let c = fit_on (signed_decimal per) [] 0 (fit_signed per (omega (arith, is.2))) fit_off in
    let b = fit_on (signed_decimal fixed) (signed_decimal per ∷ []) 32 (fit_signed fixed (omega (arith, is.1))) c in
    let a = fit_on (decimal slot) (signed_decimal fixed ∷ signed_decimal per ∷ []) 64 (fit_number slot (omega (arith, is.0))) b in
    fit_name (codes "term") (words_text (decimal slot ∷ signed_decimal fixed ∷ signed_decimal per ∷ [])) 96 (tested (codes "term") refl) (omega arith) a (omega arith)

-- ---- the first line of bytes

-- bytes with a line feed
no_feed_in : (text after : List ℕ) → ¬ HasNoFeed (text ++ 10 ∷ after)
no_feed_in [] after none = none 0 0 (omega arith) refl
no_feed_in (byte ∷ text) after none = no_feed_in text after (λ k d within. none (suc k) d (omega arith))

-- no text and its line feed stand first in bytes without one
pub begins_none : (text bytes : List ℕ) → HasNoFeed bytes → ¬ BeginsWith text bytes
begins_none text bytes none first = no_feed_in text first.after (let is = first.is in rw is at none)

-- bytes with a line do not end early
pub line_late : (text bytes after : List ℕ) → bytes ≡ text ++ 10 ∷ after → ¬ EndsEarly bytes
line_late text bytes after is early = no_feed_in text after (rw is at early.0)

-- one text of a line stands first
pub feed_unique : (text part x y : List ℕ) → HasNoFeed text → HasNoFeed part → text ++ 10 ∷ x ≡ part ++ 10 ∷ y → text ≡ part
feed_unique [] [] x y plain plain2 same = refl
feed_unique [] (byte ∷ part) x y plain plain2 same = absurd (plain2 0 0 (omega arith) (sym (ap (λ w. get_or w 0 0) same)))
feed_unique (byte ∷ text) [] x y plain plain2 same = absurd (plain 0 0 (omega arith) (ap (λ w. get_or w 0 0) same))
feed_unique (byte ∷ text) (byte2 ∷ part) x y plain plain2 same =
    let first : byte ≡ byte2 = ap (λ w. get_or w 0 0) same in
    rw (first, feed_unique text part x y (λ k d within. plain (suc k) d (omega arith)) (λ k d within. plain2 (suc k) d (omega arith)) (ap (drop 1) same)) refl

-- the text of the line that stands first
pub begins_line : (text part bytes after : List ℕ) → HasNoFeed text → HasNoFeed part → bytes ≡ part ++ 10 ∷ after → BeginsWith text bytes → text ≡ part
begins_line text part bytes after plain plain2 is first = feed_unique text part first.after after plain plain2 (sym first.is ∙ is)

-- how long the first line is
cond_le : (b : Bool) (m n : ℕ) → m ≤ n → cond b (1 + m) 0 ≤ suc n
cond_le true m n le = omega arith
cond_le false m n le = omega arith

line_short : (text after : List ℕ) → line_length (text ++ 10 ∷ after) ≤ length text
line_short [] after = omega arith
line_short (byte ∷ text) after = cond_le (not (eqb byte 10)) (line_length (text ++ 10 ∷ after)) (length text) (line_short text after)

line_within : (bytes : List ℕ) → line_length bytes ≤ length bytes
line_within [] = omega arith
line_within (byte ∷ bytes) = cond_le (not (eqb byte 10)) (line_length bytes) (length bytes) (line_within bytes)

-- no short text stands first before a long line
pub long_none : (text bytes : List ℕ) → length text ≤ 200 → 200 < line_length bytes → ¬ BeginsWith text bytes
long_none text bytes short long first = let is : bytes ≡ text ++ 10 ∷ first.after = first.is in omega (arith, line_short text first.after, ap line_length is)

-- bytes with a long line do not end early
pub long_late : (bytes : List ℕ) → 200 < line_length bytes → ¬ EndsEarly bytes
long_late bytes long early = omega (arith, line_within bytes, early.1)

-- ---- one line of a text

-- rows of one word are the same
row_word_unique : (a b : Option ℕ) → IsShortRow a → IsShortRow b → row_word a ≡ row_word b → a ≡ b
row_word_unique None None short short2 same = refl
row_word_unique None (Some n) short short2 same = absurd (no_minus n [] (omega arith) same)
row_word_unique (Some m) None short short2 same = absurd (no_minus m [] (omega arith) (sym same))
row_word_unique (Some m) (Some n) short short2 same = ap Some (decimal_injective_wide m n (omega arith) (omega arith) same)

-- lines with one name and the same words are the same
words_same : (a b : HeadLine) → IsHeadLine a → IsHeadLine b → line_name a ≡ line_name b → line_words a ≡ line_words b → a ≡ b
words_same (line.Sum w o l h c) (line.Sum w2 o2 l2 h2 c2) is is2 named same =
    let e0 : w ≡ w2 = decimal_injective_wide w w2 (omega (arith, is.0.1)) (omega (arith, is2.0.1)) (ap (λ ws. get_or ws 0 []) same) in
    let e1 : o ≡ o2 = signed_decimal_injective_wide o o2 (omega (arith, is.1)) (omega (arith, is2.1)) (ap (λ ws. get_or ws 1 []) same) in
    let e2 : l ≡ l2 = row_word_unique l l2 is.2 is2.2 (ap (λ ws. get_or ws 2 []) same) in
    let e3 : h ≡ h2 = row_word_unique h h2 is.3 is2.3 (ap (λ ws. get_or ws 3 []) same) in
    let e4 : c ≡ c2 = decimal_injective_wide c c2 (omega (arith, is.4.1)) (omega (arith, is2.4.1)) (ap (λ ws. get_or ws 4 []) same) in
    rw (e0, e1, e2, e3, e4) refl
words_same (line.Sum w o l h c) (line.Term s f p) is is2 named same = absurd (omega (arith, ap (λ w. get_or w 0 0) named))
words_same (line.Term s f p) (line.Sum w o l h c) is is2 named same = absurd (omega (arith, ap (λ w. get_or w 0 0) named))
words_same (line.Term s f p) (line.Term s2 f2 p2) is is2 named same =
    let e0 : s ≡ s2 = decimal_injective_wide s s2 (omega (arith, is.0)) (omega (arith, is2.0)) (ap (λ ws. get_or ws 0 []) same) in
    let e1 : f ≡ f2 = signed_decimal_injective_wide f f2 (omega (arith, is.1)) (omega (arith, is2.1)) (ap (λ ws. get_or ws 1 []) same) in
    let e2 : p ≡ p2 = signed_decimal_injective_wide p p2 (omega (arith, is.2)) (omega (arith, is2.2)) (ap (λ ws. get_or ws 2 []) same) in
    rw (e0, e1, e2) refl

-- lines of one text are the same
pub text_unique : (a b : HeadLine) → IsHeadLine a → IsHeadLine b → head_line_text a ≡ head_line_text b → a ≡ b
text_unique a b is is2 same = let parts = text_cut_line a b is is2 same in words_same a b is is2 parts.0 parts.1
