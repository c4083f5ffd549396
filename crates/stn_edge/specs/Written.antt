-- How far some bytes were written, where the writer tells what it holds.
use Rattle.std.specs.Prelude.{◌≡◌, List, ℕ, ◌++◌, Option}
use Rattle.std.specs.Io.KnownBytes.{Appends}

-- the rest is left of the bytes, and what stands before it was appended
abbrev pub IsRestLeft : List ℕ → Option (List ℕ) → Option (List ℕ) → List ℕ → Type 0
IsRestLeft bytes old new rest = (done : List ℕ) × (bytes ≡ done ++ rest) × Appends old new done
