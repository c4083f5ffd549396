-- The line of a head that bytes are.
use Rattle.std.proofs.Common.{◌≡◌, ℕ, ◌<◌, ◌^◌, Bool, true, false, cond, ◌&&◌, ◌==◌, List, [], ◌∷◌, ◌++◌, bytes_eq, decimal, codes, Option, Some, None, refl, sym, ap, ◌∙◌, subst, arith, unsigned_abs}
use Rattle.std.specs.List.{slice_split}
use Rattle.std.specs.Str.Parse.{digits_value}
use Rattle.std.proofs.lemmas.Bool.{and_from, and_parts, cond-false, false_from_ne_true, le-leb, leb-true, lt-ltb, ltb-true, not-true, not_from_false}
use Rattle.std.proofs.lemmas.Fmt.{decimal_is_IsNumeral_wide}
use Rattle.std.proofs.lemmas.Slice.Eq.{bytes_eq-Decides}
use Rattle.log_lines.specs.Numbers.{IsWord}
use Rattle.row_kit.specs.Row.{is_nothing}
use Rattle.sum_lines.specs.declared.line.HeadLine.{HeadLine}
use Rattle.sum_lines.specs.declared.line.HeadLine.TheVariants as line
use Rattle.sum_lines.specs.Line.{IsHeadLine, IsShortRow, head_line_text, line_name, line_words, row_word, words_text}
use Rattle.sum_lines.proofs.LineWords.{tested, words_are}
use Rattle.sum_lines.proofs.NumberWords.{no_minus}
use Rattle.head_laws.specs.HeadLines.{head_line_said, is_head_line, is_short_row, line_with, row_said}
use Rattle.head_laws.proofs.Words.{number_back, split_words}

-- ---- words

natural_back : (n : ℕ) → n < 10 ^ 30 → digits_value 10 (decimal n) ≡ n
natural_back n short = (decimal_is_IsNumeral_wide n (omega (arith, short))).1

row_back : (row : Option ℕ) → IsShortRow row → row_said (row_word row) ≡ row
row_back None short = refl
row_back (Some n) short =
    let other : bytes_eq (decimal n) (45 ∷ []) ≡ false = false_from_ne_true (bytes_eq (decimal n) (45 ∷ []))
    (λ same. no_minus n [] (omega (arith, short)) (sym ((bytes_eq-Decides (decimal n) (45 ∷ [])).0 same))) in
    cond-false (bytes_eq (decimal n) (45 ∷ [])) None (Some (digits_value 10 (decimal n))) other ∙ ap (λ (m : ℕ). Some m) (natural_back n short)

name_is_word : (line : HeadLine) → IsWord (line_name line)
name_is_word (line.Sum _ _ _ _ _) = tested (codes "sum") refl
name_is_word (line.Term _ _ _) = tested (codes "term") refl

-- a line is that of its words
line_back : (line : HeadLine) → IsHeadLine line → line_with (line_name line ∷ line_words line) ≡ line
line_back (line.Sum width offset low high count) is =
    rw (natural_back width (omega (arith, is.0.1)), number_back offset (omega (arith, is.1)), row_back low is.2, row_back high is.3, natural_back count is.4.1) refl
line_back (line.Term slot fixed per) is =
    rw (natural_back slot is.0, number_back fixed (omega (arith, is.1)), number_back per (omega (arith, is.2))) refl

-- ---- tests

short_row_test : (row : Option ℕ) → IsShortRow row → is_short_row row ≡ true
short_row_test None short = refl
short_row_test (Some n) short = lt-ltb n (10 ^ 30) short

short_row_is : (row : Option ℕ) → is_short_row row ≡ true → IsShortRow row
short_row_is None passes = tt
short_row_is (Some n) passes = ltb-true n (10 ^ 30) passes

line_test : (line : HeadLine) → IsHeadLine line → is_head_line line ≡ true
line_test (line.Sum width offset low high count) is =
    and_from _ _ (and_from _ _ (and_from _ _ (and_from _ _ (and_from _ _ (and_from _ _ (le-leb 1 width is.0.0) (le-leb width 1000000 is.0.1))
    (le-leb (unsigned_abs offset) 900000000000 is.1)) (short_row_test low is.2)) (short_row_test high is.3)) (le-leb 1 count is.4.0)) (lt-ltb count (10 ^ 30) is.4.1)
line_test (line.Term slot fixed per) is =
    and_from _ _ (and_from _ _ (and_from _ _ (lt-ltb slot (10 ^ 30) is.0) (le-leb (unsigned_abs fixed) 10000000 is.1)) (le-leb (unsigned_abs per) 10000000 is.2)) (not_from_false (is_nothing (fixed, per)) is.3)

line_is : (line : HeadLine) → is_head_line line ≡ true → IsHeadLine line
line_is (line.Sum width offset low high count) passes =
    let a = and_parts _ _ passes in
    let b = and_parts _ _ a.0 in
    let c = and_parts _ _ b.0 in
    let d = and_parts _ _ c.0 in
    let e = and_parts _ _ d.0 in
    let f = and_parts _ _ e.0 in
    ((leb-true 1 width f.0, leb-true width 1000000 f.1), leb-true (unsigned_abs offset) 900000000000 e.1, short_row_is low d.1, short_row_is high c.1, (leb-true 1 count b.1, ltb-true count (10 ^ 30) a.1))
line_is (line.Term slot fixed per) passes =
    let a = and_parts _ _ passes in
    let b = and_parts _ _ a.0 in
    let c = and_parts _ _ b.0 in
    (ltb-true slot (10 ^ 30) c.0, leb-true (unsigned_abs fixed) 10000000 c.1, leb-true (unsigned_abs per) 10000000 b.1, not-true (is_nothing (fixed, per)) a.1)

-- ---- the line that bytes are

pub said_line : (line : HeadLine) → IsHeadLine line → head_line_said (head_line_text line) ≡ Some line
unfolding head_line_said head_line_text
said_line line is =
    let text = line_name line ++ words_text (line_words line) in
    let own : line_with (slice_split (λ byte. byte == 32) text) ≡ line = ap line_with (split_words (line_name line) (line_words line) (name_is_word line) (words_are line is)) ∙ line_back line is in
    let passes : is_head_line line && bytes_eq text text ≡ true = and_from (is_head_line line) (bytes_eq text text) (line_test line is) ((bytes_eq-Decides text text).1 refl) in
    ap (λ (l : HeadLine). cond (is_head_line l && bytes_eq (line_name l ++ words_text (line_words l)) text) (Some l) None) own ∙ ap (λ (b : Bool). cond b (Some line) None) passes

pub said_is : (bytes : List ℕ) (line : HeadLine) → head_line_said bytes ≡ Some line → IsHeadLine line × (head_line_text line ≡ bytes)
unfolding head_line_said
said_is bytes line said = at (is_head_line own && bytes_eq (head_line_text own) bytes) refl said
  where
    own : HeadLine
    own = line_with (slice_split (λ byte. byte == 32) bytes)

    at : (b : Bool) → (is_head_line own && bytes_eq (head_line_text own) bytes) ≡ b → cond b (Some own) None ≡ Some line → IsHeadLine line × (head_line_text line ≡ bytes)
    at true passes e =
        let same : own ≡ line = cc in
        let both = and_parts (is_head_line own) (bytes_eq (head_line_text own) bytes) passes in
        subst (λ (l : HeadLine). IsHeadLine l × (head_line_text l ≡ bytes)) same (line_is own both.0, (bytes_eq-Decides (head_line_text own) bytes).0 both.1)
    at false fails e = absurd cc
