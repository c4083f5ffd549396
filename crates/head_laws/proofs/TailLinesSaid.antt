-- The line of derivations that bytes are.
use Rattle.std.proofs.Common.{◌≡◌, ℕ, ℤ, pos, ◌<◌, ◌^◌, Bool, true, false, cond, ◌&&◌, ◌==◌, All, List, [], ◌∷◌, ◌++◌, map, bytes_eq, codes, Some, None, refl, ap, ◌∙◌, subst, arith, unsigned_abs}
use Rattle.std.specs.Fmt.{signed_decimal}
use Rattle.std.specs.List.{slice_split}
use Rattle.std.proofs.lemmas.Bool.{and_from, and_parts, le-leb, leb-true, lt-ltb, ltb-true, not-true, not_from_false}
use Rattle.std.proofs.lemmas.List.Elements.{All-cons, All-nil}
use Rattle.std.proofs.lemmas.Slice.Eq.{bytes_eq-Decides}
use Rattle.log_lines.specs.Numbers.{IsWord}
use Rattle.log_lines.specs.Said.{word_number}
use Rattle.log_lines.proofs.NumberTexts.{IsWord-signed}
use Rattle.row_kit.specs.Row.{is_nothing}
use Rattle.sum_lines.proofs.LineWords.{tested}
use Rattle.derivation_lines.specs.declared.line.TailLine.{TailLine}
use Rattle.derivation_lines.specs.declared.line.TailLine.TheVariants as line
use Rattle.derivation_lines.specs.Line.{IsTailLine, line_name, line_numbers, numbers_text, tail_line_text}
use Rattle.derivation_lines.specs.laws.Reading.{AreShort}
use Rattle.derivation_lines.proofs.Lines.{short_numbers}
use Rattle.derivation_lines.proofs.NumberLists.{short_head, short_tail}
use Rattle.head_laws.specs.TailLines.{is_tail_line, line_with, tail_line_said}
use Rattle.head_laws.proofs.Words.{number_back, split_words}

words_plain : (numbers : List ℤ) → AreShort numbers → All IsWord (map signed_decimal numbers)
words_plain [] short = All-nil IsWord
words_plain (n ∷ ns) short = All-cons IsWord (signed_decimal n) (map signed_decimal ns) (IsWord-signed n (short_head n ns short)) (words_plain ns (short_tail n ns short))

name_plain : (l : TailLine) → IsWord (line_name l)
name_plain (line.Cut _ _) = tested (codes "cut") refl
name_plain (line.Row _ _ _ _ _ _ _) = tested (codes "row") refl
name_plain (line.By _ _) = tested (codes "by") refl
name_plain (line.Shift _ _) = tested (codes "shift") refl
name_plain (line.Lift _ _) = tested (codes "lift") refl
name_plain (line.Entry _ _ _) = tested (codes "entry") refl

-- the absolute value of what a number's word is
natural_back : (n : ℕ) → n < 10 ^ 30 → unsigned_abs (word_number (signed_decimal (pos n))) ≡ n
natural_back n short = ap unsigned_abs (number_back (pos n) short)

-- a line is that of its words
line_back : (l : TailLine) → AreShort (line_numbers l) → line_with (line_name l ∷ map signed_decimal (line_numbers l)) ≡ l
line_back (line.Cut row slot) s = rw (natural_back row (s 0 (pos 0) (omega arith)), natural_back slot (s 1 (pos 0) (omega arith))) refl
line_back (line.Row divisor rest up down factors groups entries) s =
    rw (
      natural_back divisor (s 0 (pos 0) (omega arith)),
      natural_back rest (s 1 (pos 0) (omega arith)),
      natural_back up (s 2 (pos 0) (omega arith)),
      natural_back down (s 3 (pos 0) (omega arith)),
      natural_back factors (s 4 (pos 0) (omega arith)),
      natural_back groups (s 5 (pos 0) (omega arith)),
      natural_back entries (s 6 (pos 0) (omega arith)),
    ) refl
line_back (line.By row by) s = rw (natural_back row (s 0 (pos 0) (omega arith)), number_back by (s 1 (pos 0) (omega arith))) refl
line_back (line.Shift row shift) s = rw (natural_back row (s 0 (pos 0) (omega arith)), number_back shift (s 1 (pos 0) (omega arith))) refl
line_back (line.Lift slot shift) s = rw (natural_back slot (s 0 (pos 0) (omega arith)), number_back shift (s 1 (pos 0) (omega arith))) refl
line_back (line.Entry slot fixed per) s = rw (natural_back slot (s 0 (pos 0) (omega arith)), number_back fixed (s 1 (pos 0) (omega arith)), number_back per (s 2 (pos 0) (omega arith))) refl

-- ---- tests

line_test : (l : TailLine) → IsTailLine l → is_tail_line l ≡ true
line_test (line.Cut row slot) is = and_from _ _ (lt-ltb row (10 ^ 30) is.0) (lt-ltb slot (10 ^ 30) is.1)
line_test (line.Row divisor rest up down factors groups entries) is =
    and_from _ _ (and_from _ _ (and_from _ _ (and_from _ _ (and_from _ _ (and_from _ _ (and_from _ _ (and_from _ _ (and_from _ _ (and_from _ _
    (le-leb 1 divisor is.0.0) (le-leb divisor 1000000000 is.0.1)) (lt-ltb rest divisor is.1)) (le-leb 1 up is.2.0)) (le-leb up 1000000000 is.2.1)) (le-leb 1 down is.3.0)) (le-leb down 1000000000 is.3.1))
    (le-leb 1 factors is.4.0)) (le-leb factors 64 is.4.1)) (le-leb groups 512 is.4.2)) (le-leb entries 4096 is.4.3)
line_test (line.By row by) is = and_from _ _ (and_from _ _ (lt-ltb row (10 ^ 30) is.0) (le-leb 1 (unsigned_abs by) is.1.0)) (le-leb (unsigned_abs by) 1000000 is.1.1)
line_test (line.Shift row shift) is = and_from _ _ (lt-ltb row (10 ^ 30) is.0) (le-leb (unsigned_abs shift) 1000000000000 is.1)
line_test (line.Lift slot shift) is = and_from _ _ (lt-ltb slot (10 ^ 30) is.0) (le-leb (unsigned_abs shift) 1000000000000 is.1)
line_test (line.Entry slot fixed per) is =
    and_from _ _ (and_from _ _ (and_from _ _ (lt-ltb slot (10 ^ 30) is.0) (le-leb (unsigned_abs fixed) 10000000 is.1)) (le-leb (unsigned_abs per) 10000000 is.2)) (not_from_false (is_nothing (fixed, per)) is.3)

line_is : (l : TailLine) → is_tail_line l ≡ true → IsTailLine l
line_is (line.Cut row slot) passes = let a = and_parts _ _ passes in (ltb-true row (10 ^ 30) a.0, ltb-true slot (10 ^ 30) a.1)
line_is (line.Row divisor rest up down factors groups entries) passes =
    let a = and_parts _ _ passes in
    let b = and_parts _ _ a.0 in
    let c = and_parts _ _ b.0 in
    let d = and_parts _ _ c.0 in
    let e = and_parts _ _ d.0 in
    let f = and_parts _ _ e.0 in
    let g = and_parts _ _ f.0 in
    let h = and_parts _ _ g.0 in
    let i = and_parts _ _ h.0 in
    let j = and_parts _ _ i.0 in (
      (leb-true 1 divisor j.0, leb-true divisor 1000000000 j.1),
      ltb-true rest divisor i.1,
      (leb-true 1 up h.1, leb-true up 1000000000 g.1),
      (leb-true 1 down f.1, leb-true down 1000000000 e.1),
      (leb-true 1 factors d.1, leb-true factors 64 c.1, leb-true groups 512 b.1, leb-true entries 4096 a.1),
    )
line_is (line.By row by) passes =
    let a = and_parts _ _ passes in
    let b = and_parts _ _ a.0 in
    (ltb-true row (10 ^ 30) b.0, (leb-true 1 (unsigned_abs by) b.1, leb-true (unsigned_abs by) 1000000 a.1))
line_is (line.Shift row shift) passes = let a = and_parts _ _ passes in (ltb-true row (10 ^ 30) a.0, leb-true (unsigned_abs shift) 1000000000000 a.1)
line_is (line.Lift slot shift) passes = let a = and_parts _ _ passes in (ltb-true slot (10 ^ 30) a.0, leb-true (unsigned_abs shift) 1000000000000 a.1)
line_is (line.Entry slot fixed per) passes =
    let a = and_parts _ _ passes in
    let b = and_parts _ _ a.0 in
    let c = and_parts _ _ b.0 in
    (ltb-true slot (10 ^ 30) c.0, leb-true (unsigned_abs fixed) 10000000 c.1, leb-true (unsigned_abs per) 10000000 b.1, not-true (is_nothing (fixed, per)) a.1)

-- ---- the line that bytes are

pub said_line : (l : TailLine) → IsTailLine l → tail_line_said (tail_line_text l) ≡ Some l
unfolding tail_line_said tail_line_text
said_line l is =
    let text = line_name l ++ numbers_text (line_numbers l) in
    let short = short_numbers l is in
    let own : line_with (slice_split (λ byte. byte == 32) text) ≡ l = ap line_with (split_words (line_name l) (map signed_decimal (line_numbers l)) (name_plain l) (words_plain (line_numbers l) short)) ∙ line_back l short in
    let passes : is_tail_line l && bytes_eq text text ≡ true = and_from (is_tail_line l) (bytes_eq text text) (line_test l is) ((bytes_eq-Decides text text).1 refl) in
    ap (λ (x : TailLine). cond (is_tail_line x && bytes_eq (line_name x ++ numbers_text (line_numbers x)) text) (Some x) None) own ∙ ap (λ (b : Bool). cond b (Some l) None) passes

pub said_is : (bytes : List ℕ) (l : TailLine) → tail_line_said bytes ≡ Some l → IsTailLine l × (tail_line_text l ≡ bytes)
unfolding tail_line_said
said_is bytes l said = at (is_tail_line own && bytes_eq (tail_line_text own) bytes) refl said
  where
    own : TailLine
    own = line_with (slice_split (λ byte. byte == 32) bytes)

    at : (b : Bool) → (is_tail_line own && bytes_eq (tail_line_text own) bytes) ≡ b → cond b (Some own) None ≡ Some l → IsTailLine l × (tail_line_text l ≡ bytes)
    at true passes e =
        let same : own ≡ l = cc in
        let both = and_parts (is_tail_line own) (bytes_eq (tail_line_text own) bytes) passes in
        subst (λ (x : TailLine). IsTailLine x × (tail_line_text x ≡ bytes)) same (line_is own both.0, (bytes_eq-Decides (tail_line_text own) bytes).0 both.1)
    at false fails e = absurd cc
