-- Words that are a step.
use Rattle.std.proofs.Common.{◌≡◌, ℕ, ℤ, pos, negsuc, suc, ◌≤◌, List, ◌∷◌, drop, get_or, decimal, sym, ap, arith}
use Rattle.std.proofs.lemmas.Bool.Decides.{nat_tests}
use Rattle.log_lines.proofs.SignedNumbers.{plain_first}
use Rattle.command_words.specs.Words.{IsStep}

-- a minus and what is printed of no number above zero is no step
pub no_fall : (digits : List ℕ) → ((n : ℕ) → n ≤ 1000000000 → digits ≡ decimal n → n ≡ 0) → (step : ℤ) → ¬ IsStep (45 ∷ digits) step
no_fall digits none (pos n) is =
    let small = is.most in
    let plain = plain_first n (omega (arith, small)) in
    let first : get_or (decimal n) 0 0 ≡ 45 = ap (λ w. get_or w 0 0) (sym is.digits) in
    grind (arith, nat_tests)
no_fall digits none (negsuc m) is = (let zero' = none (suc m) is.most (ap (drop 1) is.digits) in omega (arith, zero'))
