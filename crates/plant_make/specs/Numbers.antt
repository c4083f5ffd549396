-- Limits that are all one number, and parts in lowest terms.
use Rattle.std.specs.Prelude.{ℕ, zero, suc, ◌+◌, ◌*◌, ◌/◌, ◌%◌, ◌==◌, if◌then◌else◌, List, [], ◌∷◌, Option, Some, None}
use Rattle.std.specs.List.{list_all}
use Rattle.fraction.specs.declared.fraction_of.Fraction.{Fraction}

-- the one number that all numbers of the list are, if there is one
unfoldable pub lone : List ℕ → Option ℕ
lone [] = None
lone (n ∷ ns) = if list_all (λ k. k == n) (n ∷ ns) then Some n else None

-- the numbers, where there are several that are not all the same
unfoldable pub several : List ℕ → Option (List ℕ)
several [] = None
several (n ∷ ns) = if list_all (λ k. k == n) (n ∷ ns) then None else Some (n ∷ ns)

-- the first number from one on, among the next so many, by which the amount is a multiple of the quantum
unfoldable pub least_from : ℕ → ℕ → ℕ → ℕ → ℕ
least_from amount quantum zero under = under
least_from amount quantum (suc more) under = if (amount * under) % quantum == 0 then under else least_from amount quantum more (under + 1)

-- the part that the amount is of the quantum, in lowest terms: with the least denominator
unfoldable pub part_of : ℕ → ℕ → Fraction
part_of quantum amount =
    let under = least_from amount quantum 10000 1 in
    record { over = (amount * under) / quantum; under = under }
