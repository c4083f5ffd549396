-- Files by name, as contracts see them, and what the calls of a shelf do to them.
use Rattle.std.specs.Prelude.{◌≡◌, ◌≢◌, ◌⊎◌, ◌↔◌, ℕ, ◌-◌, ◌<◌, ◌≤◌, List, [], ◌++◌, length, take, drop, Option, unwrap_or}
use Rattle.std.specs.Option.{option_map}
use Rattle.std.specs.Ordering.{nat_cmp}
use Rattle.std.specs.Cmp.Lexicographic.{slice_cmp}
use Rattle.std.specs.FinMap.{FinMap, get, insert}

-- a finite map from names to bytes
abbrev pub FileMap : Type 0
FileMap = FinMap (slice_cmp nat_cmp) (List ℕ)

-- the bytes under a name; a name that is not there stands for the empty text
abbrev pub file_of : FileMap → List ℕ → List ℕ
file_of files name = unwrap_or (get files name) []

-- the files when the one of this name is there and empty, and every other is as it was
unfoldable pub cleared : List ℕ → FileMap → FileMap
cleared name files = insert files name []

-- the files when these bytes follow those of the file of this name, and every other is as it was
unfoldable pub appended : List ℕ → List ℕ → FileMap → FileMap
appended name bytes files = insert files name (file_of files name ++ bytes)

-- every file but the one of this name is as it was
abbrev pub OthersStay : List ℕ → Option FileMap → Option FileMap → Type 0
OthersStay name old new =
    (other : List ℕ) → other ≢ name → option_map (λ files. get files other) new ≡ option_map (λ files. get files other) old

-- the files are as they were, or the file of this name is there and empty
abbrev pub MayClear : List ℕ → Option FileMap → Option FileMap → Type 0
MayClear name old new = (new ≡ old) ⊎ (new ≡ option_map (cleared name) old)

-- the files are as they were, or a first part of the bytes follows those of the file of this name
abbrev pub MayAppend : List ℕ → List ℕ → Option FileMap → Option FileMap → Type 0
MayAppend name bytes old new =
    (new ≡ old) ⊎ ((count : ℕ) × (new ≡ option_map (appended name (take count bytes)) old))

-- the first n bytes of `into` are those of the file from a place on, and nothing is read only at the end
pub record IsPiece (file : List ℕ) (place : ℕ) (into : List ℕ) (n : ℕ) : Type 0 where
  pub bytes : take n into ≡ take n (drop place file)
  pub within : n ≤ length file - place
  pub at_end : 0 < length into → (n ≡ 0) ↔ (length file ≤ place)
