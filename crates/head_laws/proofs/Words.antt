-- Words, and the numbers that they are.
use Rattle.std.proofs.Common.{◌≡◌, ℕ, ℤ, pos, negsuc, neg_ℤ, suc, ◌<◌, ◌^◌, ◌==◌, All, List, [], ◌∷◌, ◌++◌, refl, ap, ◌∙◌, arith, unsigned_abs}
use Rattle.std.specs.Fmt.{signed_decimal}
use Rattle.std.specs.List.{slice_split}
use Rattle.std.proofs.lemmas.Fmt.{decimal_is_IsNumeral_wide}
use Rattle.std.proofs.lemmas.List.{append-nil}
use Rattle.std.proofs.lemmas.List.Splits.{slice_split_at, slice_split_none}
use Rattle.log_lines.specs.Numbers.{IsWord}
use Rattle.log_lines.specs.Said.{word_number}
use Rattle.log_lines.proofs.SignedNumbers.{plain_first}
use Rattle.sum_lines.specs.Line.{words_text}

-- what is printed of a number is that number
pub number_back : (number : ℤ) → unsigned_abs number < 10 ^ 30 → word_number (signed_decimal number) ≡ number
unfolding word_number
number_back (pos n) short = rw (plain_first n (omega (arith, short))) (ap pos (decimal_is_IsNumeral_wide n (omega (arith, short))).1)
number_back (negsuc n) short = ap (λ m. neg_ℤ (pos m)) (decimal_is_IsNumeral_wide (suc n) (omega (arith, short))).1

-- words with a blank before each are cut at the blanks
pub split_words : (name : List ℕ) (words : List (List ℕ)) → IsWord name → All IsWord words → slice_split (λ byte. byte == 32) (name ++ words_text words) ≡ name ∷ words
unfolding words_text
split_words name [] plain are = ap (slice_split (λ byte. byte == 32)) (append-nil name) ∙ slice_split_none (λ byte. byte == 32) name plain
split_words name (word ∷ words) plain are =
    slice_split_at (λ byte. byte == 32) name 32 (word ++ words_text words) plain refl
    ∙ ap (λ (ws : List (List ℕ)). name ∷ ws) (split_words word words (are 0 [] (omega arith)) (λ k d within. are (suc k) d (omega (arith, within))))
