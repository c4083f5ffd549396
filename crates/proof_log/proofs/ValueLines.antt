-- The value lines of points that grow.
use Rattle.std.proofs.Common.{◌≡◌, ◌<◌, ℕ, suc, zero, ◌+◌, ◌==◌, false, List, [], ◌∷◌, ◌++◌, length, replicate, refl, ap, sym, ◌∙◌, append_assoc, arith}
use Rattle.std.proofs.lemmas.Bool.Decides.{nat_tests}
use Rattle.std.proofs.lemmas.Grind.{common_steps}
use Rattle.std.proofs.lemmas.List.{length-replicate}
use Rattle.proof_log.specs.Log.{started, value_line, value_lines}
use Rattle.log_lines.specs.declared.line.Line.TheVariants.{Value}

-- the lines of two parts of a point, one after the other
value_lines-append : (slot : ℕ) (xs ys : List ℕ) → value_lines slot (xs ++ ys) ≡ value_lines slot xs ++ value_lines (slot + length xs) ys
value_lines-append slot [] ys = ap (λ n. value_lines n ys) (let e : slot ≡ slot + 0 = omega arith in e)
value_lines-append slot (x ∷ xs) ys =
    let rest = value_lines-append (slot + 1) xs ys in
    let place : (slot + 1) + length xs ≡ slot + length (x ∷ xs) = omega arith in
    let inner : value_lines (slot + 1) (xs ++ ys) ≡ value_lines (slot + 1) xs ++ value_lines (slot + length (x ∷ xs)) ys = rest ∙ ap (λ n. value_lines (slot + 1) xs ++ value_lines n ys) place in
    ap (λ t. value_line slot x ++ t) inner ∙ sym (append_assoc (value_line slot x) (value_lines (slot + 1) xs) (value_lines (slot + length (x ∷ xs)) ys))

value_lines-zeroes : (slot n : ℕ) → value_lines slot (replicate n 0) ≡ []
value_lines-zeroes slot zero = refl
value_lines-zeroes slot (suc n) = value_lines-zeroes (slot + 1) n

started-append : (xs ys : List ℕ) → started (xs ++ ys) ≡ started xs + started ys
started-append xs ys = grind (arith, common_steps)

started-zeroes : (n : ℕ) → started (replicate n 0) ≡ 0
started-zeroes zero = refl
started-zeroes (suc n) = started-zeroes n

-- zeroes at the end of a point have no lines
pub value_lines-padded : (xs : List ℕ) (n : ℕ) → value_lines 0 (xs ++ replicate n 0) ≡ value_lines 0 xs
value_lines-padded xs n = let zeroes = value_lines-zeroes (0 + length xs) n in value_lines-append 0 xs (replicate n 0) ∙ (ap (λ t. value_lines 0 xs ++ t) zeroes ∙ grind (arith, common_steps))

pub started-padded : (xs : List ℕ) (n : ℕ) → started (xs ++ replicate n 0) ≡ started xs
started-padded xs n = let zeroes = started-zeroes n in let both = started-append xs (replicate n 0) in omega arith

-- a value after zeroes has one line
pub value_lines-more : (xs : List ℕ) (n slot value : ℕ) → slot ≡ length xs + n → 0 < value → value_lines 0 ((xs ++ replicate n 0) ++ value ∷ []) ≡ value_lines 0 xs ++ Value slot value ∷ []
value_lines-more xs n slot value at some =
    let long : 0 + length (xs ++ replicate n 0) ≡ slot = grind (arith, common_steps, length-replicate) in
    let test : value == 0 ≡ false = grind (arith, nat_tests) in
    let line : value_lines (0 + length (xs ++ replicate n 0)) (value ∷ []) ≡ Value slot value ∷ [] = rw (long, test) refl in
    value_lines-append 0 (xs ++ replicate n 0) (value ∷ []) ∙ (ap (λ t. value_lines 0 (xs ++ replicate n 0) ++ t) line ∙ ap (λ t. t ++ Value slot value ∷ []) (value_lines-padded xs n))

pub started-more : (xs : List ℕ) (n value : ℕ) → 0 < value → started ((xs ++ replicate n 0) ++ value ∷ []) ≡ started xs + 1
started-more xs n value some =
    let test : value == 0 ≡ false = grind (arith, nat_tests) in
    let one : started (value ∷ []) ≡ 1 = rw test refl in
    let both = started-append (xs ++ replicate n 0) (value ∷ []) in
    let padded = started-padded xs n in
    omega arith
