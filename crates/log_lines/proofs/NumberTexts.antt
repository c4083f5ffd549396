-- Numbers that stand one after another in a text, each after a blank.
use Rattle.std.proofs.Common.{◌≡◌, ◌≢◌, ℕ, ℤ, pos, negsuc, suc, ◌+◌, ◌<◌, ◌≤◌, ◌^◌, Bool, true, false, cond, ltb, eqb, position, List, [], ◌∷◌, ◌++◌, take, drop, length, length-take, get_or, decimal, map, flat_map, Some, None, sym, ap, ◌∙◌, refl, arith, append_assoc}
use Rattle.std.specs.Fmt.{signed_decimal}
use Rattle.std.specs.List.{position_or_len}
use Rattle.std.proofs.lemmas.Bool.{false≢true}
use Rattle.std.proofs.lemmas.Bool.Decides.{nat_tests}
use Rattle.std.proofs.lemmas.Int.{to_z-of_z, fits_signed_from_abs}
use Rattle.std.proofs.lemmas.List.{append-nil, get_or-take, get_or-drop, take-append-drop}
use Rattle.std.proofs.lemmas.Grind.{flat_map-append}
use Rattle.std.proofs.lemmas.List.Folds.{flat_map-map}
use Rattle.std.proofs.lemmas.List.Elements.{All-cons}
use Rattle.std.proofs.lemmas.List.Sums.{fails_before_first, passes_at_first}
use mir.Syntax.{w128}
use mir.Val.{to_z, of_z}
use Rattle.log_lines.specs.Line.{IsShort, number_text}
use Rattle.log_lines.specs.Numbers.{IsCut, IsWord, IsRest, HasSign, Fit, Reads, IsFirst, ReadsFirst}
use Rattle.text_words.proofs.Printed.{decimal-lacks}
use Rattle.log_lines.proofs.SignedNumbers.{signed_decimal_injective_wide}

-- ---- words

-- what is printed of a number has no blank
pub IsWord-signed : (number : ℤ) → IsShort number → IsWord (signed_decimal number)
IsWord-signed (pos n) short = decimal-lacks n 32 (omega arith) (λ r. omega arith)
IsWord-signed (negsuc n) short = All-cons (λ b. eqb b 32 ≡ false) 45 _ refl (decimal-lacks (suc n) 32 (omega arith) (λ r. omega arith))

-- numbers follow after a blank
pub IsRest-number_text : (numbers : List ℤ) → IsRest (number_text numbers)
unfolding number_text
IsRest-number_text [] = λ some. omega arith
IsRest-number_text (number ∷ numbers) = λ some. refl

-- a blank is in no word
no_blank : (byte : ℕ) (word : List ℕ) → IsWord (byte ∷ word) → byte ≢ 32
no_blank byte word is same = false≢true (sym (is 0 0 (omega arith)) ∙ ap (λ b. eqb b 32) same)

IsWord-tail : (byte : ℕ) (word : List ℕ) → IsWord (byte ∷ word) → IsWord word
IsWord-tail byte word is = λ k d within. is (suc k) d (omega arith)

-- a text has one first word
pub word_unique : (a b c d : List ℕ) → IsWord a → IsWord c → IsRest b → IsRest d → a ++ b ≡ c ++ d → (a ≡ c) × (b ≡ d)
word_unique [] b [] d in_a in_c of_b of_d same = (refl, same)
word_unique [] b (y ∷ c) d in_a in_c of_b of_d same =
    absurd (no_blank y c in_c (sym (ap (λ w. get_or w 0 0) same) ∙ of_b (omega (arith, ap length same))))
word_unique (x ∷ a) b [] d in_a in_c of_b of_d same =
    absurd (no_blank x a in_a (ap (λ w. get_or w 0 0) same ∙ of_d (omega (arith, ap length same))))
word_unique (x ∷ a) b (y ∷ c) d in_a in_c of_b of_d same =
    let others = word_unique a b c d (IsWord-tail x a in_a) (IsWord-tail y c in_c) of_b of_d (ap (drop 1) same) in
    let first : x ≡ y = ap (λ w. get_or w 0 0) same in
    (rw (first, others.0) refl, others.1)

-- what a test tells
eqb-true : (a b : ℕ) → eqb a b ≡ true → a ≡ b
eqb-true a b is = grind (arith, nat_tests)

-- a text is cut at its first blank
chosen : (n l at : ℕ) → cond (ltb n l) (Some n) None ≡ Some at → (at ≡ n) × (n < l)
chosen n l at is = (grind (arith, nat_tests), grind (arith, nat_tests))

not_chosen : (n l : ℕ) → cond (ltb n l) (Some n) None ≡ None → l ≤ n
not_chosen n l is = grind (arith, nat_tests)

pub cut_there : (text : List ℕ) (at : ℕ) → position (λ b. eqb b 32) text ≡ Some at → IsCut text (take at text) (drop at text)
cut_there text at is =
    let p : ℕ → Bool = λ b. eqb b 32 in
    let found = chosen (position_or_len p text) (length text) at is in
    record {
      is_word = λ k d within. let below : k < at = omega (arith, length-take at text) in rw (get_or-take at text k d below) (fails_before_first p text k d (omega arith));
      is_rest = λ some. let place : at + 0 ≡ position_or_len p text = omega arith in
          get_or-drop at text 0 0 ∙ (eqb-true (get_or text (at + 0) 0) 32 (ap (λ k. p (get_or text k 0)) place ∙ passes_at_first p text 0 found.1));
      is = sym (take-append-drop at text);
    }

pub cut_nowhere : (text : List ℕ) → position (λ b. eqb b 32) text ≡ None → IsCut text text []
cut_nowhere text is =
    let p : ℕ → Bool = λ b. eqb b 32 in
    let past = not_chosen (position_or_len p text) (length text) is in
    record { is_word = λ k d within. fails_before_first p text k d (omega arith); is_rest = λ some. omega arith; is = sym (append-nil text) }

-- ---- one number

-- numbers that stand first in one text are the same
pub first_unique : {sign sign' : Bool} {text : List ℕ} {number number' : ℤ} {rest rest' : List ℕ} → IsFirst sign text number rest → IsFirst sign' text number' rest'
    → (number ≡ number') × (rest ≡ rest')
first_unique {text = text} {number = number} {number' = number'} {rest = rest} {rest' = rest'} first first' =
    let same = word_unique (signed_decimal number) rest (signed_decimal number') rest' (IsWord-signed number first.short) (IsWord-signed number' first'.short) first.is_rest first'.is_rest (ap (drop 1) (sym first.is ∙ first'.is)) in
    (signed_decimal_injective_wide number number' first.short first'.short same.0, same.1)

-- where no blank is first, no number stands first
pub first_blank : {sign : Bool} {text : List ℕ} → ((after : List ℕ) → text ≢ 32 ∷ after) → (number : ℤ) (rest : List ℕ) → ¬ IsFirst sign text number rest
first_blank none number rest first = none (signed_decimal number ++ rest) first.is

-- where the first word is printed of no number, no number stands first
pub first_none : {after word rest : List ℕ} (sign : Bool) (text : List ℕ) → text ≡ 32 ∷ after → IsCut after word rest
    → ((number : ℤ) → IsShort number → HasSign sign number → word ≢ signed_decimal number) → (number : ℤ) (rest' : List ℕ) → ¬ IsFirst sign text number rest'
first_none {after = after} {word = word} {rest = rest} sign text text_is cut none number rest' first =
    let same = word_unique word rest (signed_decimal number) rest' cut.is_word (IsWord-signed number first.short) cut.is_rest first.is_rest (sym cut.is ∙ ap (drop 1) (sym text_is ∙ first.is)) in
    none number first.short first.has_sign same.0

-- what is printed of no number without sign
pub no_natural : (word : List ℕ) → ((n : ℕ) → n < 10 ^ 30 → word ≢ decimal n) → (number : ℤ) → IsShort number → HasSign false number → word ≢ signed_decimal number
no_natural word none (pos n) short plain is = none n short is
no_natural word none (negsuc n) short plain is = plain

-- ---- numbers

-- numbers that fit begin with one that stands first in their text
IsFirst-Fit : (sign : Bool) (signs : List Bool) (number : ℤ) (numbers : List ℤ) (text : List ℕ) → Fit (sign ∷ signs) (number ∷ numbers) → text ≡ number_text (number ∷ numbers)
    → IsFirst sign text number (number_text numbers)
unfolding number_text
IsFirst-Fit sign signs number numbers text fit is = record { short = fit.0; has_sign = fit.1; is_rest = IsRest-number_text numbers; is = is }

-- no number stands first
pub reads_none : (sign : Bool) (signs : List Bool) (text : List ℕ) → ReadsFirst sign text None → Reads (sign ∷ signs) text None
reads_none sign signs text none [] fit is = fit
reads_none sign signs text none (number ∷ numbers) fit is = none number (number_text numbers) (IsFirst-Fit sign signs number numbers text fit is)

-- a number stands first, and no such numbers follow
pub reads_stop : {sign : Bool} {text : List ℕ} {number : ℤ} {rest : List ℕ} (signs : List Bool) → IsFirst sign text number rest → Reads signs rest None → Reads (sign ∷ signs) text None
reads_stop signs first none [] fit is = fit
reads_stop {sign = sign} {text = text} signs first none (other ∷ numbers) fit is =
    none numbers fit.2 (first_unique first (IsFirst-Fit sign signs other numbers text fit is)).1

-- a number stands first, and numbers follow
pub reads_more : {sign : Bool} {text : List ℕ} {number : ℤ} {rest : List ℕ} (signs : List Bool) (numbers : List ℤ) → IsFirst sign text number rest → Reads signs rest (Some numbers) → Reads (sign ∷ signs) text (Some (number ∷ numbers))
unfolding number_text
reads_more {number = number} signs numbers first reads = ((first.short, first.has_sign, reads.0), first.is ∙ ap (λ w. 32 ∷ (signed_decimal number ++ w)) reads.1)

-- a number stands first, and nothing follows
pub reads_one : {sign : Bool} {text : List ℕ} {number : ℤ} {rest : List ℕ} → IsFirst sign text number rest → length rest ≡ 0 → Reads (sign ∷ []) text (Some (number ∷ []))
unfolding number_text
reads_one {rest = []} first empty = reads_more [] [] first (tt, refl)
reads_one {rest = byte ∷ rest} first empty = absurd (omega arith)

-- a number stands first, and something follows
pub reads_longer : {sign : Bool} {text : List ℕ} {number : ℤ} {rest : List ℕ} → IsFirst sign text number rest → 0 < length rest → Reads (sign ∷ []) text None
unfolding number_text
reads_longer first some [] fit is = fit
reads_longer {sign = sign} {text = text} first some (other ∷ []) fit is =
    omega (arith, ap length (first_unique first (IsFirst-Fit sign [] other [] text fit is)).1)
reads_longer first some (other ∷ next ∷ numbers) fit is = fit.2

-- numbers of the same signs and the same text are the same
pub number_text_unique : (signs : List Bool) (numbers others : List ℤ) → Fit signs numbers → Fit signs others → number_text numbers ≡ number_text others → numbers ≡ others
number_text_unique [] [] [] fit fit' same = refl
number_text_unique [] (number ∷ numbers) others fit fit' same = absurd fit
number_text_unique [] [] (other ∷ others) fit fit' same = absurd fit'
number_text_unique (sign ∷ signs) [] others fit fit' same = absurd fit
number_text_unique (sign ∷ signs) (number ∷ numbers) [] fit fit' same = absurd fit'
number_text_unique (sign ∷ signs) (number ∷ numbers) (other ∷ others) fit fit' same =
    let firsts = first_unique (IsFirst-Fit sign signs number numbers _ fit refl) (IsFirst-Fit sign signs other others _ fit' same) in
    rw (firsts.0, number_text_unique signs numbers others fit.2 fit'.2 firsts.1) refl

-- a short number fits an `i128`
pub wide_same : (number : ℤ) → IsShort number → to_z w128 (of_z w128 number) ≡ number
wide_same number short = to_z-of_z w128 number (fits_signed_from_abs w128 number (omega arith))

-- numbers, the last of which have no sign
number_text_parts : (signed : List ℤ) (naturals : List ℕ)
    → number_text (signed ++ map pos naturals) ≡ flat_map (λ number. 32 ∷ signed_decimal number) signed ++ flat_map (λ number. 32 ∷ decimal number) naturals
unfolding number_text
number_text_parts signed naturals =
    flat_map-append (λ number. 32 ∷ signed_decimal number) signed (map pos naturals)
    ∙ ap (λ w. flat_map (λ number. 32 ∷ signed_decimal number) signed ++ w) (flat_map-map (λ number. 32 ∷ signed_decimal number) pos naturals)

-- words, numbers, and numbers without sign, put one after another
pub put_parts : (old name : List ℕ) (signed : List ℤ) (naturals first second third : List ℕ) → first ≡ old ++ name → second ≡ first ++ flat_map (λ number. 32 ∷ signed_decimal number) signed
    → third ≡ second ++ flat_map (λ number. 32 ∷ decimal number) naturals → third ≡ old ++ (name ++ number_text (signed ++ map pos naturals))
put_parts old name signed naturals first second third is_first is_second is_third =
    rw (number_text_parts signed naturals, is_third, is_second, is_first) (simp append_assoc)
