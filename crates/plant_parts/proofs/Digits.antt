-- The binary digits of a part's number, and the number of given digits.
use Rattle.std.proofs.Common.{◌≡◌, ℕ, zero, suc, ◌+◌, ◌-◌, ◌*◌, ◌/◌, ◌%◌, ◌^◌, ◌<◌, ◌≤◌, Bool, sym, ap, ◌∙◌, inl, inr, arith}
use Rattle.std.specs.Prelude.{◌↔◌, nat_lt, if◌then◌else◌}
use Rattle.std.proofs.lemmas.Bool.{cases_lt, cases_eq, lt-ltb, le-ltb}
use Rattle.std.proofs.lemmas.Nat.{shr-shr, div-mul-add, mod-mul-add, mod_below}
use Rattle.std.proofs.Math.Nat.{pow-suc}
use Rattle.plant_parts.specs.PlantParts.{digit}

pub digit-below : (levels part place : ℕ) → digit levels part place < 2
digit-below levels part place = mod_below (part / 2 ^ (levels - 1 - place)) 2 (omega arith)

-- a digit before the last is that of half the number
pub digit-half : (levels part place : ℕ) → place < levels → digit (suc levels) part place ≡ digit levels (part / 2) place
digit-half levels part place l =
    let weight : suc levels - 1 - place ≡ 1 + (levels - 1 - place) = omega (arith, l) in
    ap (λ n. part / 2 ^ n % 2) weight ∙ ap (λ n. n % 2) (sym (shr-shr part 1 (levels - 1 - place)))

-- the last digit is what halving leaves
pub digit-last : (levels part : ℕ) → digit (suc levels) part levels ≡ part % 2
digit-last levels part =
    let weight : suc levels - 1 - levels ≡ 0 = omega arith in
    let whole : part / 1 ≡ part = omega arith in
    ap (λ n. part / 2 ^ n % 2) weight ∙ ap (λ n. n % 2) whole

-- two digits are the same where both are 1 or neither is
same-digit : (a b : ℕ) → a < 2 → b < 2 → (a ≡ 1 → b ≡ 1) → (b ≡ 1 → a ≡ 1) → a ≡ b
same-digit a b l m there back =
    elim (cases_eq a 1) [
      | inl e ↦ e ∙ sym (there e)
      | inr n ↦ elim (cases_eq b 1) [
        | inl e ↦ absurd (n (back e))
        | inr o ↦ omega arith
      ]
    ]

-- numbers with the same digits are the same
pub same-number : (levels a b : ℕ) → a < 2 ^ levels → b < 2 ^ levels →
    ((place : ℕ) → place < levels → digit levels a place ≡ 1 → digit levels b place ≡ 1) →
    ((place : ℕ) → place < levels → digit levels b place ≡ 1 → digit levels a place ≡ 1) → a ≡ b
same-number zero a b l m there back = omega (arith, l, m)
same-number (suc levels) a b l m there back =
    let double : 2 ^ suc levels ≡ 2 ^ levels * 2 = pow-suc 2 levels in
    let half : a / 2 ≡ b / 2 =
    same-number levels (a / 2) (b / 2) (omega (arith, l, double)) (omega (arith, m, double))
    (λ place k one. sym (digit-half levels b place k) ∙ there place (omega arith) (digit-half levels a place k ∙ one))
    (λ place k one. sym (digit-half levels a place k) ∙ back place (omega arith) (digit-half levels b place k ∙ one)) in
    let last : a % 2 ≡ b % 2 =
    same-digit (a % 2) (b % 2) (mod_below a 2 (omega arith)) (mod_below b 2 (omega arith))
    (λ one. sym (digit-last levels b) ∙ there levels (omega arith) (digit-last levels a ∙ one))
    (λ one. sym (digit-last levels a) ∙ back levels (omega arith) (digit-last levels b ∙ one)) in
    omega (arith, half, last)

-- 1 for what is above 0, and else 0
abbrev pub sign_of : ℕ → ℕ
sign_of n = if nat_lt 0 n then 1 else 0

sign-some : (n : ℕ) → 0 < n → sign_of n ≡ 1
sign-some n some = ap (λ (b : Bool). if b then 1 else 0) (lt-ltb 0 n some)

sign-none : (n : ℕ) → n ≤ 0 → sign_of n ≡ 0
sign-none n none = ap (λ (b : Bool). if b then 1 else 0) (le-ltb 0 n none)

sign-below : (n : ℕ) → sign_of n < 2
sign-below n =
    elim (cases_lt 0 n) [
      | inl some ↦ omega (arith, sign-some n some)
      | inr none ↦ omega (arith, sign-none n none)
    ]

sign-one : (n : ℕ) → sign_of n ≡ 1 → 0 < n
sign-one n one =
    elim (cases_lt 0 n) [
      | inl some ↦ some
      | inr none ↦ absurd (omega (arith, one, sign-none n none))
    ]

-- the number whose digits say where a function is above 0
pub number_of : (ℕ → ℕ) → ℕ → ℕ
number_of f zero = 0
number_of f (suc levels) = number_of f levels * 2 + sign_of (f levels)

pub number-below : (f : ℕ → ℕ) (levels : ℕ) → number_of f levels < 2 ^ levels
unfolding number_of
number-below f zero = omega arith
number-below f (suc levels) =
    let double : 2 ^ suc levels ≡ 2 ^ levels * 2 = pow-suc 2 levels in
    omega (arith, double, number-below f levels, sign-below (f levels))

digit-sign : (f : ℕ → ℕ) (levels place : ℕ) → place < levels → digit levels (number_of f levels) place ≡ sign_of (f place)
unfolding number_of
digit-sign f zero place l = absurd (omega arith)
digit-sign f (suc levels) place l =
    elim (cases_eq place levels) [
      | inl e ↦
          ap (digit (suc levels) (number_of f (suc levels))) e ∙ digit-last levels (number_of f (suc levels))
          ∙ mod-mul-add (number_of f levels) 2 (sign_of (f levels)) (sign-below (f levels)) ∙ ap (λ k. sign_of (f k)) (sym e)
      | inr n ↦
          let before : place < levels = omega arith in
          digit-half levels (number_of f (suc levels)) place before
          ∙ ap (λ number. digit levels number place) (div-mul-add (number_of f levels) 2 (sign_of (f levels)) (sign-below (f levels)))
          ∙ digit-sign f levels place before
    ]

-- a digit of that number is 1 exactly where the function is above 0
pub digit-number : (f : ℕ → ℕ) (levels place : ℕ) → place < levels → (0 < f place) ↔ (digit levels (number_of f levels) place ≡ 1)
digit-number f levels place l = (
  λ some. digit-sign f levels place l ∙ sign-some (f place) some,
  λ one. sign-one (f place) (sym (digit-sign f levels place l) ∙ one),
)
