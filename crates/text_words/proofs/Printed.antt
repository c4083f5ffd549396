-- What is printed of a number, and what is read of it.
use Rattle.std.proofs.Common.{◌≡◌, ℕ, ◌<◌, ◌≤◌, ◌^◌, Bool, true, false, eqb, All, ◌&&◌, if◌then◌else◌, List, length, decimal, Option, Some, None, bytes_eq, nat_lt, sym, ap, ◌∙◌, refl, arith}
use Rattle.std.specs.Str.{IsUtf8}
use Rattle.std.specs.Str.Parse.{digits_value, AllDigits, ParsesUnsigned}
use Rattle.std.specs.Result.{result_ok}
use Rattle.std.specs.Prelude.{Result, Ok, Err}
use Rattle.std.proofs.lemmas.Bool.Decides.{Decides-and, Decides-ltb, nat_tests}
use Rattle.std.specs.Int.{IsInRange}
use Rattle.std.proofs.lemmas.Grind.{get_or_default_zero}
use Rattle.std.proofs.lemmas.Slice.Eq.{bytes_eq-Decides}
use Rattle.std.proofs.lemmas.Str.{IsUtf8-from_ascii}
use Rattle.std.proofs.lemmas.Str.Parse.{IsNumeralModel, numerals_by_value, tells_digits, digit_at, not_in_digits, parse_plain}
use Rattle.std.proofs.lemmas.Fmt.{decimal_is_IsNumeral_wide, parse-decimal_wide, IsAscii-decimal_wide}
use Rattle.text_words.specs.Numbers.{number_below, IsNumberBelow, IsPlain}
use Rattle.text_words.proofs.Digits.{unpadded, decimal_injective_wide, decimal-digits_value_wide}

-- std's own words for digits and their value
own : IsNumeralModel (AllDigits 10) (digits_value 10)
own = numerals_by_value (AllDigits 10) tells_digits

-- what is printed of a number is plain
pub IsPlain-decimal : (n : ℕ) → n < 10 ^ 64 → IsPlain (decimal n)
IsPlain-decimal n small = record {
  unsigned = λ plus. let digit = digit_at (decimal n) 0 (decimal_is_IsNumeral_wide n small).0.1 (decimal_is_IsNumeral_wide n small).0.0 in omega arith;
  unpadded = unpadded n small;
}

-- what is printed of a number is UTF-8
pub IsUtf8-decimal : (n : ℕ) → n < 10 ^ 64 → IsUtf8 (decimal n)
IsUtf8-decimal n small = IsUtf8-from_ascii (decimal n) (IsAscii-decimal_wide n small)

-- what `parse` gives of a plain word
parsed_plain : {E : Type 0} (word : List ℕ) → IsPlain word → (answer : Result ℕ E) → ParsesUnsigned 128 10 word answer → IsNumberBelow (2 ^ 128) word (result_ok answer)
parsed_plain {E} word plain (Ok n) parsed =
    let digits : (AllDigits 10 word × (0 < length word) × (digits_value 10 word < 2 ^ 128)) × (n ≡ digits_value 10 word) = parse_plain own {E = E} 128 word (Ok n) parsed plain.unsigned in
    let printed = decimal-digits_value_wide word digits.0.0 digits.0.1 plain.unpadded (omega (arith, digits.0.2)) in
    (omega arith, sym printed ∙ ap decimal (sym digits.1))
parsed_plain word plain (Err e) parsed = λ n small printed. let numeral = parse-decimal_wide 128 n word (Err e) small (omega arith) printed parsed in cc

-- the same, of a text that is the word
pub IsNumberBelow-parse : {E : Type 0} (word text : List ℕ) (answer : Result ℕ E) (found : Option ℕ) → IsPlain word → text ≡ word → ParsesUnsigned 128 10 text answer → found ≡ result_ok answer → IsNumberBelow (2 ^ 128) word found
IsNumberBelow-parse word text answer found plain same parsed is =
    rw is (parsed_plain word plain answer (rw same at parsed))

-- a choice that is not taken
not_taken : (b : Bool) (n : ℕ) → (b ≡ true → ⊥) → None ≡ (if b then Some n else None)
not_taken true n never = absurd (never refl)
not_taken false n never = refl

-- a choice that is taken
is_taken : (b : Bool) (m n : ℕ) → b ≡ true → m ≡ n → Some n ≡ (if b then Some m else None)
is_taken true m n taken same = ap Some (sym same)
is_taken false m n taken same = cc

-- the relation has one answer
pub number_below-is : (limit : ℕ) (word : List ℕ) (answer : Option ℕ) → limit ≤ 10 ^ 64 → IsNumberBelow limit word answer → answer ≡ number_below limit word
unfolding number_below
number_below-is limit word None bound printed =
    let number = digits_value 10 word in
    let tells = Decides-and (bytes_eq (decimal number) word) (nat_lt number limit) (bytes_eq-Decides (decimal number) word) (Decides-ltb number limit) in
    not_taken _ number (λ e. printed number (tells.0 e).1 (sym (tells.0 e).0))
number_below-is limit word (Some n) bound printed =
    let number = digits_value 10 word in
    let same : number ≡ n = ap (digits_value 10) printed.1 ∙ (decimal_is_IsNumeral_wide n (omega (arith, printed.0))).1 in
    let tells = Decides-and (bytes_eq (decimal number) word) (nat_lt number limit) (bytes_eq-Decides (decimal number) word) (Decides-ltb number limit) in
    is_taken _ number n (tells.1 (ap decimal same ∙ sym printed.1, omega (arith, printed.0))) same

-- a word that is printed of a number at the limit or above is that of none below it
pub above_limit : (limit : ℕ) (word : List ℕ) (m : ℕ) → limit ≤ m → m < 10 ^ 64 → word ≡ decimal m → IsNumberBelow limit word None
above_limit limit word m above fits is_m = λ n small printed. let same = decimal_injective_wide m n fits (omega arith) (sym is_m ∙ printed) in omega arith

-- what is no number is none below a limit
pub none_below : (limit : ℕ) (word : List ℕ) → limit ≤ 2 ^ 128 → IsNumberBelow (2 ^ 128) word None → IsNumberBelow limit word None
none_below limit word bound none = λ n small printed. none n (omega arith) printed

-- a choice that was made
made : (b : Bool) (m n : ℕ) → Some n ≡ (if b then Some m else None) → (b ≡ true) × (m ≡ n)
made true m n is = (refl, cc)
made false m n is = cc

not_made : (b : Bool) (m : ℕ) → None ≡ (if b then Some m else None) → b ≡ true → ⊥
not_made true m is taken = cc
not_made false m is taken = cc

-- what `number_below` gives is the number that is printed as the word
pub number_below-printed : (limit : ℕ) (word : List ℕ) → limit ≤ 10 ^ 64 → (answer : Option ℕ) → answer ≡ number_below limit word → IsNumberBelow limit word answer
unfolding number_below
number_below-printed limit word bound (Some n) is =
    let number = digits_value 10 word in
    let chosen = made (bytes_eq (decimal number) word && nat_lt number limit) number n is in
    let tells = (Decides-and (bytes_eq (decimal number) word) (nat_lt number limit) (bytes_eq-Decides (decimal number) word) (Decides-ltb number limit)).0 chosen.0 in
    (rw (← chosen.1) tells.1, sym tells.0 ∙ ap decimal chosen.1)
number_below-printed limit word bound None is = λ n small printed.
    let number = digits_value 10 word in
    let same : number ≡ n = ap (digits_value 10) printed ∙ (decimal_is_IsNumeral_wide n (omega arith)).1 in
    not_made (bytes_eq (decimal number) word && nat_lt number limit) number is
    ((Decides-and (bytes_eq (decimal number) word) (nat_lt number limit) (bytes_eq-Decides (decimal number) word) (Decides-ltb number limit)).1 (ap decimal same ∙ sym printed, rw same small))

-- no byte but a digit is in what is printed of a number
pub decimal-lacks : (n byte : ℕ) → n < 10 ^ 64 → ¬ (IsInRange 48 57 byte) → All (λ b. eqb b byte ≡ false) (decimal n)
decimal-lacks n byte small other = λ k d within.
    let differs = not_in_digits own (decimal n) byte (decimal_is_IsNumeral_wide n small).0.1 other k within in
    let same = get_or_default_zero (decimal n) k d within in
    grind (arith, nat_tests)

-- what is read of a printed number below the limit
pub number_below-decimal : (limit n : ℕ) → limit ≤ 10 ^ 64 → n < limit → number_below limit (decimal n) ≡ Some n
number_below-decimal limit n bound small = sym (number_below-is limit (decimal n) (Some n) bound (small, refl))
