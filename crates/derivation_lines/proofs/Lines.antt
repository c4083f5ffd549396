-- Lines of derivations: their names, numbers and texts.
use Rattle.std.proofs.Common.{◌≡◌, ◌≢◌, ℕ, ℤ, pos, ◌<◌, ◌≤◌, ◌^◌, true, false, cond, eqb, All, List, [], ◌∷◌, ◌++◌, length, length-append, get_or, Option, Some, None, unsigned_abs, sym, ap, ◌∙◌, refl, arith, bytes_eq}
use Rattle.std.specs.Prelude.{codes}
use Rattle.std.proofs.lemmas.Bool.{false≢true}
use Rattle.std.proofs.lemmas.List.Elements.{All-append, All-cons}
use Rattle.std.proofs.lemmas.Slice.Eq.{bytes_eq-Decides}
use Rattle.log_lines.specs.Numbers.{IsCut, IsWord}
use Rattle.log_lines.specs.Reader.{HasNoFeed}
use Rattle.log_lines.proofs.NumberTexts.{word_unique}
use Rattle.sum_lines.proofs.Feeds.{tested as feed_tested}
use Rattle.sum_lines.proofs.LineWords.{tested as word_tested}
use Rattle.derivation_lines.specs.declared.line.TailLine.{TailLine}
use Rattle.derivation_lines.specs.declared.line.TailLine.TheVariants as line
use Rattle.derivation_lines.specs.Line.{IsLineOf, IsTailLine, line_name, line_numbers, numbers_text, tail_line_text}
use Rattle.derivation_lines.specs.laws.Reading.{AreShort, IsNumbersText, ReadsNamed, ReadsNumbers}
use Rattle.derivation_lines.proofs.NumberLists.{IsRest-numbers, numbers_fit, numbers_unique, short_more, short_none}

-- ---- the line of a name and numbers

-- a number at a place
abbrev pub z_at : List ℤ → ℕ → ℤ
z_at ns k = get_or ns k (pos 0)

-- a number without sign at a place
abbrev pub n_at : List ℤ → ℕ → ℕ
n_at ns k = unsigned_abs (z_at ns k)

-- the line of a name's first byte with numbers
abbrev form : ℕ → List ℤ → TailLine
form byte ns =
    cond (eqb byte 99) (line.Cut (n_at ns 0) (n_at ns 1))
    (cond (eqb byte 114) (line.Row (n_at ns 0) (n_at ns 1) (n_at ns 2) (n_at ns 3) (n_at ns 4) (n_at ns 5) (n_at ns 6))
    (cond (eqb byte 98) (line.By (n_at ns 0) (z_at ns 1))
    (cond (eqb byte 115) (line.Shift (n_at ns 0) (z_at ns 1)) (cond (eqb byte 108) (line.Lift (n_at ns 0) (z_at ns 1)) (line.Entry (n_at ns 0) (z_at ns 1) (z_at ns 2))))))

-- a line by its name and numbers
form_is : (l : TailLine) → form (get_or (line_name l) 0 0) (line_numbers l) ≡ l
form_is (line.Cut _ _) = refl
form_is (line.Row _ _ _ _ _ _ _) = refl
form_is (line.By _ _) = refl
form_is (line.Shift _ _) = refl
form_is (line.Lift _ _) = refl
form_is (line.Entry _ _ _) = refl

-- the line of a name by its numbers
named_is : (l : TailLine) (name : List ℕ) → line_name l ≡ name → l ≡ form (get_or name 0 0) (line_numbers l)
named_is l name named = sym (form_is l) ∙ ap (λ w. form (get_or w 0 0) (line_numbers l)) named

-- lines of one name with the same numbers are the same
line_same : (a b : TailLine) → line_name a ≡ line_name b → line_numbers a ≡ line_numbers b → a ≡ b
line_same a b named same = named_is a (line_name b) named ∙ ap (form (get_or (line_name b) 0 0)) same ∙ form_is b

-- ---- numbers of lines

two_short : (a b : ℤ) → unsigned_abs a < 10 ^ 30 → unsigned_abs b < 10 ^ 30 → AreShort (a ∷ b ∷ [])
two_short a b is_a is_b = short_more a (b ∷ []) is_a (short_more b [] is_b short_none)

three_short : (a b c : ℤ) → unsigned_abs a < 10 ^ 30 → unsigned_abs b < 10 ^ 30 → unsigned_abs c < 10 ^ 30 → AreShort (a ∷ b ∷ c ∷ [])
three_short a b c is_a is_b is_c = short_more a (b ∷ c ∷ []) is_a (two_short b c is_b is_c)

-- the numbers of a line are short
pub short_numbers : (l : TailLine) → IsTailLine l → AreShort (line_numbers l)
short_numbers (line.Cut row slot) is = two_short (pos row) (pos slot) is.0 is.1
short_numbers (line.Row d r u n f g e) is =
    short_more (pos d) (pos r ∷ pos u ∷ pos n ∷ pos f ∷ pos g ∷ pos e ∷ []) (omega (arith, is.0.1))
    (short_more (pos r) (pos u ∷ pos n ∷ pos f ∷ pos g ∷ pos e ∷ []) (omega (arith, is.0.1, is.1))
    (short_more (pos u) (pos n ∷ pos f ∷ pos g ∷ pos e ∷ []) (omega (arith, is.2.1))
    (short_more (pos n) (pos f ∷ pos g ∷ pos e ∷ []) (omega (arith, is.3.1))
    (three_short (pos f) (pos g) (pos e) (omega (arith, is.4.1)) (omega (arith, is.4.2)) (omega (arith, is.4.3))))))
short_numbers (line.By row by) is = two_short (pos row) by is.0 (omega (arith, is.1.1))
short_numbers (line.Shift row shift) is = two_short (pos row) shift is.0 (omega (arith, is.1))
short_numbers (line.Lift slot shift) is = two_short (pos slot) shift is.0 (omega (arith, is.1))
short_numbers (line.Entry slot fixed per) is = three_short (pos slot) fixed per is.0 (omega (arith, is.1)) (omega (arith, is.2))

-- the name of a line has no blanks
name_is_word : (l : TailLine) → IsWord (line_name l)
name_is_word (line.Cut _ _) = word_tested (codes "cut") refl
name_is_word (line.Row _ _ _ _ _ _ _) = word_tested (codes "row") refl
name_is_word (line.By _ _) = word_tested (codes "by") refl
name_is_word (line.Shift _ _) = word_tested (codes "shift") refl
name_is_word (line.Lift _ _) = word_tested (codes "lift") refl
name_is_word (line.Entry _ _ _) = word_tested (codes "entry") refl

-- the name of a line has no line feed, and few bytes
name_fits : (l : TailLine) → HasNoFeed (line_name l) × (length (line_name l) ≤ 5)
name_fits (line.Cut _ _) = (feed_tested (codes "cut") refl, omega arith)
name_fits (line.Row _ _ _ _ _ _ _) = (feed_tested (codes "row") refl, omega arith)
name_fits (line.By _ _) = (feed_tested (codes "by") refl, omega arith)
name_fits (line.Shift _ _) = (feed_tested (codes "shift") refl, omega arith)
name_fits (line.Lift _ _) = (feed_tested (codes "lift") refl, omega arith)
name_fits (line.Entry _ _ _) = (feed_tested (codes "entry") refl, omega arith)

-- the numbers of a row line have at most 10 digits
row_small : (d r u n f g e : ℕ) → IsTailLine (line.Row d r u n f g e) → All (λ m. unsigned_abs m < 10 ^ 10) (line_numbers (line.Row d r u n f g e))
row_small d r u n f g e is =
    let P : ℤ → Type 0 = λ m. unsigned_abs m < 10 ^ 10 in
    All-cons P (pos d) (pos r ∷ pos u ∷ pos n ∷ pos f ∷ pos g ∷ pos e ∷ []) (omega (arith, is.0.1))
    (All-cons P (pos r) (pos u ∷ pos n ∷ pos f ∷ pos g ∷ pos e ∷ []) (omega (arith, is.0.1, is.1))
    (All-cons P (pos u) (pos n ∷ pos f ∷ pos g ∷ pos e ∷ []) (omega (arith, is.2.1))
    (All-cons P (pos n) (pos f ∷ pos g ∷ pos e ∷ []) (omega (arith, is.3.1))
    (All-cons P (pos f) (pos g ∷ pos e ∷ []) (omega (arith, is.4.1))
    (All-cons P (pos g) (pos e ∷ []) (omega (arith, is.4.2)) (All-cons P (pos e) [] (omega (arith, is.4.3)) (λ k m within. absurd (omega arith))))))))

-- the numbers of a line have no line feed, and few bytes
line_fits : (l : TailLine) → IsTailLine l → HasNoFeed (numbers_text (line_numbers l)) × (length (numbers_text (line_numbers l)) ≤ 96)
line_fits (line.Cut row slot) is = let fit = numbers_fit 30 (pos row ∷ pos slot ∷ []) (omega arith) (omega arith) (short_numbers (line.Cut row slot) is) (short_numbers (line.Cut row slot) is) in (fit.0, omega (arith, fit.1))
line_fits (line.Row d r u n f g e) is =
    let fit = numbers_fit 10 (line_numbers (line.Row d r u n f g e)) (omega arith) (omega arith) (row_small d r u n f g e is) (short_numbers (line.Row d r u n f g e) is) in (fit.0, omega (arith, fit.1))
line_fits (line.By row by) is = let fit = numbers_fit 30 (pos row ∷ by ∷ []) (omega arith) (omega arith) (short_numbers (line.By row by) is) (short_numbers (line.By row by) is) in (fit.0, omega (arith, fit.1))
line_fits (line.Shift row shift) is = let fit = numbers_fit 30 (pos row ∷ shift ∷ []) (omega arith) (omega arith) (short_numbers (line.Shift row shift) is) (short_numbers (line.Shift row shift) is) in (fit.0, omega (arith, fit.1))
line_fits (line.Lift slot shift) is = let fit = numbers_fit 30 (pos slot ∷ shift ∷ []) (omega arith) (omega arith) (short_numbers (line.Lift slot shift) is) (short_numbers (line.Lift slot shift) is) in (fit.0, omega (arith, fit.1))
line_fits (line.Entry slot fixed per) is = let fit = numbers_fit 30 (pos slot ∷ fixed ∷ per ∷ []) (omega arith) (omega arith) (short_numbers (line.Entry slot fixed per) is) (short_numbers (line.Entry slot fixed per) is) in (fit.0, omega (arith, fit.1))

-- the text of a line has no line feed, and at most 200 bytes
pub text_fits : (l : TailLine) → IsTailLine l → HasNoFeed (tail_line_text l) × (length (tail_line_text l) ≤ 200)
unfolding tail_line_text
text_fits l is =
    let name = name_fits l in
    let numbers = line_fits l is in
    (All-append (λ b. b ≢ 10) (line_name l) (numbers_text (line_numbers l)) name.0 numbers.0, omega (arith, length-append (line_name l) (numbers_text (line_numbers l)), name.1, numbers.1))

-- ---- texts of lines

-- a line's text is cut after its name
text_cut : (bytes name rest : List ℕ) (l : TailLine) → IsCut bytes name rest → tail_line_text l ≡ bytes → (line_name l ≡ name) × (numbers_text (line_numbers l) ≡ rest)
unfolding tail_line_text
text_cut bytes name rest l cut same =
    word_unique (line_name l) (numbers_text (line_numbers l)) name rest (name_is_word l) cut.is_word (IsRest-numbers (line_numbers l)) cut.is_rest (same ∙ cut.is)

-- what was read of bytes that were cut after a name
pub text_read : (bytes name rest : List ℕ) (numbers : List ℤ) (answer : Option TailLine) → IsCut bytes name rest → IsNumbersText rest numbers → ReadsNamed name numbers answer → IsLineOf bytes answer
unfolding tail_line_text
text_read bytes name rest numbers None cut text none = λ l is same.
    let parts = text_cut bytes name rest l cut same in
    none l is parts.0 (numbers_unique (line_numbers l) numbers (short_numbers l is) text.short (parts.1 ∙ text.is))
text_read bytes name rest numbers (Some l) cut text read = (read.0, ap (λ w. w ++ numbers_text (line_numbers l)) read.1 ∙ ap (λ ns. name ++ numbers_text ns) read.2 ∙ ap (λ w. name ++ w) (sym text.is) ∙ sym cut.is)

-- bytes that go on with no numbers are no line
pub text_none : (bytes name rest : List ℕ) (old new : List ℤ) → IsCut bytes name rest → ReadsNumbers rest old new false → IsLineOf bytes None
text_none bytes name rest old new cut none = λ l is same. none (line_numbers l) (record { short = short_numbers l is; is = sym (text_cut bytes name rest l cut same).1 })

-- numbers that were read after none
pub text_numbers : (bytes name rest : List ℕ) (new : List ℤ) (answer : Option TailLine) → IsCut bytes name rest → ReadsNumbers rest [] new true → ReadsNamed name new answer → IsLineOf bytes answer
text_numbers bytes name rest new answer cut has read =
    text_read bytes name rest new answer cut (record { short = rw has.2 has.1.short; is = has.1.is ∙ ap numbers_text (sym has.2) }) read

-- the same, where the name is told by a test
pub named_read : (name known : List ℕ) (numbers : List ℤ) (answer : Option TailLine) → bytes_eq name known ≡ true → ReadsNamed known numbers answer → ReadsNamed name numbers answer
named_read name known numbers answer is read = let same : name ≡ known = (bytes_eq-Decides name known).0 is in rw same read

not_named : (name known : List ℕ) → bytes_eq name known ≡ false → known ≢ name
not_named name known differs is = false≢true (sym differs ∙ (bytes_eq-Decides name known).1 (sym is))

-- a name that is none of a line's
pub named_none : (name : List ℕ) (numbers : List ℤ) → bytes_eq name (codes "cut") ≡ false → bytes_eq name (codes "row") ≡ false → bytes_eq name (codes "by") ≡ false → bytes_eq name (codes "shift") ≡ false → bytes_eq name (codes "lift") ≡ false
    → bytes_eq name (codes "entry") ≡ false → ReadsNamed name numbers None
named_none name numbers cut row by shift lift entry (line.Cut _ _) is named same = not_named name (codes "cut") cut named
named_none name numbers cut row by shift lift entry (line.Row _ _ _ _ _ _ _) is named same = not_named name (codes "row") row named
named_none name numbers cut row by shift lift entry (line.By _ _) is named same = not_named name (codes "by") by named
named_none name numbers cut row by shift lift entry (line.Shift _ _) is named same = not_named name (codes "shift") shift named
named_none name numbers cut row by shift lift entry (line.Lift _ _) is named same = not_named name (codes "lift") lift named
named_none name numbers cut row by shift lift entry (line.Entry _ _ _) is named same = not_named name (codes "entry") entry named

-- lines of one text are the same
pub text_unique : (a b : TailLine) → IsTailLine a → IsTailLine b → tail_line_text a ≡ tail_line_text b → a ≡ b
unfolding tail_line_text
text_unique a b is is2 same =
    let parts = text_cut (tail_line_text b) (line_name b) (numbers_text (line_numbers b)) a (record { is_word = name_is_word b; is_rest = IsRest-numbers (line_numbers b); is = refl }) same in
    line_same a b parts.0 (numbers_unique (line_numbers a) (line_numbers b) (short_numbers a is) (short_numbers b is2) parts.1)
