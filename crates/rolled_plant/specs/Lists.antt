-- Lists by number.
use Rattle.std.specs.Prelude.{ℕ, zero, suc, List, [], ◌∷◌, ◌++◌}

-- a function of each item and its number, which are numbered from n on
abbrev pub map_from : {X Y : Type 0} → (ℕ → X → Y) → ℕ → List X → List Y
map_from f n [] = []
map_from f n (x ∷ xs) = f n x ∷ map_from f (suc n) xs

-- the lists of the numbers 0 to n - 1, one behind the other
abbrev pub listed_below : {X : Type 0} → (ℕ → List X) → ℕ → List X
listed_below f zero = []
listed_below f (suc n) = listed_below f n ++ f n
