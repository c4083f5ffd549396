-- When a name is that of a log with a number.
use Rattle.std.proofs.Common.{◌≡◌, ℕ, ◌^◌, ◌+◌, ◌-◌, ◌<◌, List, ◌∷◌, ◌++◌, length, get_or, take, drop, decimal, sym, ap, ◌∙◌, subst, arith, add-one, length-append, length-drop}
use Rattle.std.proofs.Math.Seq.{take-append_seam, get_or-append_seam, drop-append-add, drop-cons}
use Rattle.std.proofs.lemmas.List.{take-append-drop, take_all}
use Rattle.std.specs.Prelude.{Option, Some, None, MatchOption, ◌≢◌}
use Rattle.std.proofs.lemmas.Fmt.{decimal_injective}
use Rattle.text_words.specs.Numbers.{IsNumberBelow}
use Rattle.proof_log.specs.LogNames.{log_name}

-- the name begins with the stem and a dot, and ends in the number
pub record HasParts (name stem : List ℕ) (g : ℕ) : Type 0 where
  pub longer : length stem < length name
  pub front : take (length stem) name ≡ stem
  pub dot : get_or name (length stem) 0 ≡ 46
  pub rest : drop (length stem + 1) name ≡ decimal g

-- the name of a log has these parts
pub parts_of : (name stem : List ℕ) (g : ℕ) → name ≡ log_name stem g → HasParts name stem g
unfolding log_name
parts_of name stem g is =
    let same : stem ++ (46 ∷ decimal g) ≡ name = sym is in
    subst (λ (n : List ℕ). HasParts n stem g) same (record {
      longer = omega (arith, length-append stem (46 ∷ decimal g));
      front = take-append_seam stem (46 ∷ decimal g);
      dot = get_or-append_seam stem 46 (decimal g) 0;
      rest = drop-append-add stem (46 ∷ decimal g) 1;
    })

split_at : (name : List ℕ) (n : ℕ) → n < length name → name ≡ take n name ++ (get_or name n 0 ∷ drop (n + 1) name)
split_at name n within =
    let whole : take n name ++ drop n name ≡ take n name ++ (get_or name n 0 ∷ drop (n + 1) name) = rw (add-one, drop-cons name n 0) in
    sym (take-append-drop n name) ∙ whole

-- and a name with these parts is one
pub of_parts : (name stem : List ℕ) (g : ℕ) → HasParts name stem g → name ≡ log_name stem g
unfolding log_name
of_parts name stem g parts =
    split_at name (length stem) parts.longer
    ∙ ap (λ (front : List ℕ). front ++ (get_or name (length stem) 0 ∷ drop (length stem + 1) name)) parts.front
    ∙ ap (λ (byte : ℕ). stem ++ (byte ∷ drop (length stem + 1) name)) parts.dot
    ∙ ap (λ (rest : List ℕ). stem ++ (46 ∷ rest)) parts.rest

-- all that follows a place
pub all_after : (name : List ℕ) (at : ℕ) → take (length name - at) (drop at name) ≡ drop at name
all_after name at = take_all (length name - at) (drop at name) (omega (arith, length-drop at name))

-- the number that a name has after the stem and a dot, if it has one
pub number_after : (file name stem : List ℕ) (limit : ℕ) (r : Option ℕ) → name ≡ file → length stem < length name → take (length stem) name ≡ stem → get_or name (length stem) 0 ≡ 46
    → IsNumberBelow limit (take (length name - (length stem + 1)) (drop (length stem + 1) name)) r
    → MatchOption r ((n : ℕ) → n < limit → file ≢ log_name stem n) (λ number. (number < limit) × (file ≡ log_name stem number))
number_after file name stem limit None same longer front dot none = λ n less is.
    none n less (all_after name (length stem + 1) ∙ (parts_of name stem n (same ∙ is)).rest)
number_after file name stem limit (Some number) same longer front dot printed = (
  printed.0,
  sym same ∙ of_parts name stem number (record { longer = longer; front = front; dot = dot; rest = sym (all_after name (length stem + 1)) ∙ printed.1 }),
)

-- one file is the log of one number
pub one_number : (file stem : List ℕ) (a b : ℕ) → a < 2 ^ 32 → b < 2 ^ 32 → file ≡ log_name stem a → file ≡ log_name stem b → a ≡ b
one_number file stem a b small_a small_b is_a is_b = decimal_injective a b (omega arith) (omega arith) (sym (parts_of file stem a is_a).rest ∙ (parts_of file stem b is_b).rest)
