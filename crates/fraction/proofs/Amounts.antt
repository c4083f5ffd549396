-- Amounts that are parts of a quantum, where the parts sum to one.
use Rattle.std.proofs.Common.{◌≡◌, ℕ, suc, ◌*◌, ◌/◌, ◌<◌, ◌≤◌, List, [], ◌∷◌, All, sum_by, ap, ◌∙◌, arith}
use Rattle.std.specs.Int.{◌∣◌}
use Rattle.std.specs.List.{AllZip, AllByRecursion}
use Rattle.std.proofs.Math.Nat.{mul-div_cancel', dvd-mul_right, dvd-mul_left, mul-le-mul_left}
use Rattle.std.proofs.lemmas.Nat.Gcd.{dvd_refl, dvd_trans}
use Rattle.std.proofs.lemmas.List.Sums.{sum_by-cons}
use Rattle.fraction.specs.declared.fraction_of.Fraction.{Fraction}
use Rattle.fraction.specs.Fractions.{IsProper, SumsToOne, common_under}
use Rattle.fraction.proofs.LowestTerms.{same_factor}

-- what holds of all holds of all but the first
others : {X : Type 0} (P : X → Type 0) (x : X) (xs : List X) → All P (x ∷ xs) → All P xs
others P x xs all = λ k d within. all (suc k) d (omega arith)

-- proper denominators have a positive product
common_under-positive : (parts : List Fraction) → All IsProper parts → 0 < common_under parts
common_under-positive [] proper = omega arith
common_under-positive (part ∷ parts) proper =
    let first : IsProper part = proper 0 part (omega arith) in
    let rest = common_under-positive parts (others IsProper part parts proper) in
    let some : part.under * 1 ≤ part.under * common_under parts = mul-le-mul_left part.under rest in
    omega (arith, first.some, first.most)

-- each denominator divides what their product divides
divides : (whole : ℕ) (parts : List Fraction) → common_under parts ∣ whole → AllByRecursion (λ (part : Fraction). part.under ∣ whole) parts
divides whole [] product = tt
divides whole (part ∷ parts) product =
    (dvd_trans part.under (dvd-mul_right part.under (common_under parts)) product, divides whole parts (dvd_trans (common_under parts) (dvd-mul_left (common_under parts) part.under) product))

-- Amounts that are these parts of the quantum, over a common denominator.
amounts_scaled : {X : Type 0} (amount_of : X → ℕ) (whole quantum : ℕ) (parts : List Fraction) (items : List X) → AllByRecursion (λ (part : Fraction). part.under ∣ whole) parts
    → AllZip (λ (part : Fraction) (item : X). amount_of item * part.under ≡ quantum * part.over) parts items
    → sum_by amount_of items * whole ≡ quantum * sum_by (λ (part : Fraction). part.over * (whole / part.under)) parts
amounts_scaled amount_of whole quantum [] [] divide are = omega arith
amounts_scaled amount_of whole quantum [] (item ∷ items) divide are = absurd are
amounts_scaled amount_of whole quantum (part ∷ parts) [] divide are = absurd are
amounts_scaled amount_of whole quantum (part ∷ parts) (item ∷ items) divide are =
    let rest = amounts_scaled amount_of whole quantum parts items divide.1 are.1 in
    let times : ℕ = whole / part.under in
    let exact : part.under * times ≡ whole = mul-div_cancel' part.under divide.0 in
    let scaled : amount_of item * part.under * times ≡ quantum * part.over * times = ap (λ (x : ℕ). x * times) are.0 in
    let spread : amount_of item * (part.under * times) ≡ amount_of item * whole = ap (λ (x : ℕ). amount_of item * x) exact in
    rw (sum_by-cons amount_of item items) (rw (sum_by-cons (λ (p : Fraction). p.over * (whole / p.under)) part parts) (omega arith))

-- where the parts sum to one, the amounts sum to the quantum
pub amounts_sum : {X : Type 0} (amount_of : X → ℕ) (quantum : ℕ) (parts : List Fraction) (items : List X) → All IsProper parts → SumsToOne parts
    → AllZip (λ (part : Fraction) (item : X). amount_of item * part.under ≡ quantum * part.over) parts items → sum_by amount_of items ≡ quantum
unfolding SumsToOne
amounts_sum amount_of quantum parts items proper one are =
    let whole : ℕ = common_under parts in
    same_factor whole (sum_by amount_of items) quantum (common_under-positive parts proper)
    (amounts_scaled amount_of whole quantum parts items (divides whole parts (dvd_refl whole)) are ∙ ap (λ (x : ℕ). quantum * x) one)

-- where the amounts sum to the quantum, the parts sum to one
pub parts_sum : {X : Type 0} (amount_of : X → ℕ) (quantum : ℕ) (parts : List Fraction) (items : List X) → 0 < quantum → All IsProper parts → sum_by amount_of items ≡ quantum
    → AllZip (λ (part : Fraction) (item : X). amount_of item * part.under ≡ quantum * part.over) parts items → SumsToOne parts
unfolding SumsToOne
parts_sum amount_of quantum parts items some proper total are =
    let whole : ℕ = common_under parts in
    let sum : ℕ = sum_by (λ (part : Fraction). part.over * (whole / part.under)) parts in
    let scaled : sum_by amount_of items * whole ≡ quantum * sum = amounts_scaled amount_of whole quantum parts items (divides whole parts (dvd_refl whole)) are in
    let all : sum_by amount_of items * whole ≡ quantum * whole = ap (λ (x : ℕ). x * whole) total in
    same_factor quantum sum whole some (omega arith)
