-- Numbers that stand one after another in a text, each after a blank.
use Rattle.std.proofs.Common.{◌≡◌, ◌≢◌, ℕ, ℤ, pos, negsuc, suc, ◌+◌, ◌*◌, ◌<◌, ◌≤◌, ◌^◌, Bool, true, false, All, List, [], ◌∷◌, ◌++◌, length, length-append, map, get_or, drop, None, Result, Ok, Err, IfOk, unsigned_abs, decimal, sym, ap, ◌∙◌, refl, arith, append_assoc}
use Rattle.std.specs.Fmt.{signed_decimal}
use Rattle.std.proofs.lemmas.Fmt.{length-decimal-le_wide}
use Rattle.std.proofs.lemmas.List.{append-nil}
use Rattle.std.proofs.lemmas.List.Elements.{All-append, All-cons}
use Rattle.log_lines.specs.Numbers.{IsRest, IsWord}
use Rattle.log_lines.specs.Reader.{HasNoFeed}
use Rattle.log_lines.proofs.NumberTexts.{IsWord-signed}
use Rattle.log_lines.proofs.SignedNumbers.{signed_decimal_injective_wide}
use Rattle.sum_lines.specs.Line.{words_text}
use Rattle.sum_lines.specs.laws.Words.{CutsFirst, IsFirstWord}
use Rattle.sum_lines.proofs.Feeds.{no_feed_number}
use Rattle.sum_lines.proofs.WordTexts.{IsRest-words_text, first_unique, words_unique}
use Rattle.derivation_lines.specs.Line.{numbers_text}
use Rattle.derivation_lines.specs.laws.Reading.{AreShort, IsNumbersText, ReadsNumbers}

-- the first of short numbers is short
pub short_head : (n : ℤ) (ns : List ℤ) → AreShort (n ∷ ns) → unsigned_abs n < 10 ^ 30
short_head n ns short = short 0 n (omega arith)

-- the others of short numbers are short
pub short_tail : (n : ℤ) (ns : List ℤ) → AreShort (n ∷ ns) → AreShort ns
short_tail n ns short = λ k d within. short (suc k) d (omega arith)

-- no numbers are short
pub short_none : AreShort []
short_none = λ k d within. absurd (omega arith)

-- a short number and others
pub short_more : (n : ℤ) (ns : List ℤ) → unsigned_abs n < 10 ^ 30 → AreShort ns → AreShort (n ∷ ns)
short_more n ns one others = All-cons (λ (m : ℤ). unsigned_abs m < 10 ^ 30) n ns one others

-- the first number stands first in the text of numbers
first_number : (text : List ℕ) (n : ℤ) (ns : List ℤ) → IsNumbersText text (n ∷ ns) → IsFirstWord text (signed_decimal n) (numbers_text ns)
unfolding words_text
first_number text n ns is = record { is_word = IsWord-signed n (short_head n ns is.short); is_rest = IsRest-words_text (map signed_decimal ns); is = is.is }

-- ---- how numbers are read

-- nothing is left
pub reads_all : (text : List ℕ) (old : List ℤ) → length text ≡ 0 → ReadsNumbers text old old true
unfolding words_text
reads_all [] old none = ([], record { short = short_none; is = refl }, sym (append-nil old))
reads_all (byte ∷ text) old none = absurd (omega arith)

-- no word stands first
pub reads_no_word : (text : List ℕ) (old new : List ℤ) → 0 < length text → CutsFirst text None → ReadsNumbers text old new false
unfolding words_text
reads_no_word text old new some none [] is = omega (arith, some, ap length is.is)
reads_no_word text old new some none (n ∷ ns) is = none (signed_decimal n) (numbers_text ns) (first_number text n ns is)

-- the word that stands first is no number
pub reads_no_number : (text word rest : List ℕ) (old new : List ℤ) → IsFirstWord text word rest → ((n : ℤ) → unsigned_abs n < 10 ^ 30 → word ≢ signed_decimal n) → ReadsNumbers text old new false
unfolding words_text
reads_no_number text word rest old new first none [] is = absurd (omega (arith, ap length (sym first.is ∙ is.is)))
reads_no_number text word rest old new first none (n ∷ ns) is = none n (short_head n ns is.short) (first_unique first (first_number text n ns is)).0

-- a number stands first, and what follows is none of numbers
reads_more_none : (text word rest : List ℕ) (old new : List ℤ) → IsFirstWord text word rest → ((numbers : List ℤ) → ¬ IsNumbersText rest numbers) → ReadsNumbers text old new false
unfolding words_text
reads_more_none text word rest old new first none [] is = absurd (omega (arith, ap length (sym first.is ∙ is.is)))
reads_more_none text word rest old new first none (n ∷ ns) is = none ns (record { short = short_tail n ns is.short; is = (first_unique first (first_number text n ns is)).1 })

-- a number stands first, and what follows was read
pub reads_more : (text word rest : List ℕ) (number : ℤ) (old new : List ℤ) (tells : Bool) → IsFirstWord text word rest → unsigned_abs number < 10 ^ 30 → word ≡ signed_decimal number → ReadsNumbers rest (old ++ number ∷ []) new tells → ReadsNumbers text old new tells
unfolding words_text
reads_more text word rest number old new true first short is has = (
  number ∷ has.0,
  record {
    short = short_more number has.0 short has.1.short;
    is = first.is ∙ ap (λ w. 32 ∷ (w ++ rest)) is ∙ ap (λ r. 32 ∷ (signed_decimal number ++ r)) has.1.is;
  },
  has.2 ∙ append_assoc old (number ∷ []) has.0,
)
reads_more text word rest number old new false first short is none = reads_more_none text word rest old new first none

-- ---- the text of numbers

-- the words of short numbers have no blanks
words_are : (ns : List ℤ) → AreShort ns → All IsWord (map signed_decimal ns)
words_are [] short = λ k d within. absurd (omega arith)
words_are (n ∷ ns) short = All-cons IsWord (signed_decimal n) (map signed_decimal ns) (IsWord-signed n (short_head n ns short)) (words_are ns (short_tail n ns short))

-- short numbers with the same words are the same
words_same : (ns ms : List ℤ) → AreShort ns → AreShort ms → map signed_decimal ns ≡ map signed_decimal ms → ns ≡ ms
words_same [] [] short short2 same = refl
words_same [] (m ∷ ms) short short2 same = absurd (omega (arith, ap length same))
words_same (n ∷ ns) [] short short2 same = absurd (omega (arith, ap length same))
words_same (n ∷ ns) (m ∷ ms) short short2 same =
    let first : signed_decimal n ≡ signed_decimal m = ap (λ ws. get_or ws 0 []) same in
    let one : n ≡ m = signed_decimal_injective_wide n m (short_head n ns short) (short_head m ms short2) first in
    let others : ns ≡ ms = words_same ns ms (short_tail n ns short) (short_tail m ms short2) (ap (drop 1) same) in
    rw (one, others) refl

-- short numbers of one text are the same
pub numbers_unique : (ns ms : List ℤ) → AreShort ns → AreShort ms → numbers_text ns ≡ numbers_text ms → ns ≡ ms
numbers_unique ns ms short short2 same = words_same ns ms short short2 (words_unique (map signed_decimal ns) (map signed_decimal ms) (words_are ns short) (words_are ms short2) same)

-- numbers follow after a blank
pub IsRest-numbers : (ns : List ℤ) → IsRest (numbers_text ns)
IsRest-numbers ns = IsRest-words_text (map signed_decimal ns)

-- ---- no line feed in numbers, and few bytes

-- what is printed of a number below a power of 10
number_fits : (width : ℕ) (n : ℤ) → 0 < width → width ≤ 30 → unsigned_abs n < 10 ^ width → unsigned_abs n < 10 ^ 30 → HasNoFeed (signed_decimal n) × (length (signed_decimal n) ≤ width + 1)
number_fits width (pos n) some few small short = (no_feed_number n (omega (arith, short)), omega (arith, length-decimal-le_wide width n some small (omega (arith, short))))
number_fits width (negsuc n) some few small short =
    (All-cons (λ b. b ≢ 10) 45 (decimal (suc n)) (omega arith) (no_feed_number (suc n) (omega (arith, short))), omega (arith, length-decimal-le_wide width (suc n) some small (omega (arith, short))))

-- the same of numbers, each after a blank
pub numbers_fit : (width : ℕ) (ns : List ℤ) → 0 < width → width ≤ 30 → All (λ n. unsigned_abs n < 10 ^ width) ns → AreShort ns → HasNoFeed (numbers_text ns) × (length (numbers_text ns) ≤ (width + 2) * length ns)
unfolding words_text
numbers_fit width [] some few small short = (λ k d within. absurd (omega arith), omega arith)
numbers_fit width (n ∷ ns) some few small short =
    let one = number_fits width n some few (small 0 n (omega arith)) (short_head n ns short) in
    let others = numbers_fit width ns some few (λ k d within. small (suc k) d (omega arith)) (short_tail n ns short) in
    let more : (width + 2) * length (n ∷ ns) ≡ (width + 2) * length ns + (width + 2) = grind arith in (
      All-cons (λ b. b ≢ 10) 32 (signed_decimal n ++ numbers_text ns) (omega arith) (All-append (λ b. b ≢ 10) (signed_decimal n) (numbers_text ns) one.0 others.0),
      omega (arith, length-append (signed_decimal n) (numbers_text ns), one.1, others.1, more),
    )

-- the same, where there may have been no memory
pub reads_more_ok : {E : Type 0} (text word rest : List ℕ) (number : ℤ) (old mid new : List ℤ) (answer : Result Bool E) → IsFirstWord text word rest → unsigned_abs number < 10 ^ 30 → word ≡ signed_decimal number → mid ≡ old ++ number ∷ []
    → IfOk answer (ReadsNumbers rest mid new) → IfOk answer (ReadsNumbers text old new)
reads_more_ok text word rest number old mid new (Err stop) first short is pushed has = tt
reads_more_ok text word rest number old mid new (Ok tells) first short is pushed has = reads_more text word rest number old new tells first short is (rw pushed at has)
