-- Lists that are put together of pieces.
use Rattle.std.specs.Prelude.{ℕ, zero, suc, nat_lt, if◌then◌else◌, List, [], ◌∷◌, ◌++◌, Option, Some, None}

-- what f lists of the numbers 0 to n - 1, one after another
abbrev pub listed_below : {X : Type 0} → (ℕ → List X) → ℕ → List X
listed_below f zero = []
listed_below f (suc n) = listed_below f n ++ f n

-- what is said of a thing that may not be there: nothing where it is not
abbrev pub listed : {X Y : Type 0} → (X → Y) → Option X → List Y
listed say None = []
listed say (Some x) = say x ∷ []

-- what is said of an amount: nothing where it is 0
abbrev pub listed_amount : {Y : Type 0} → (ℕ → Y) → ℕ → List Y
listed_amount say amount = if nat_lt 0 amount then say amount ∷ [] else []
