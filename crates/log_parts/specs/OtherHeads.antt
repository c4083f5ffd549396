-- Where the head of one log differs from that of another.
use Rattle.std.specs.Prelude.{◌≡◌, ◌≢◌, ◌⊎◌, ℕ, List, [], ◌∷◌, ◌++◌, length, slice_index_or}
use Rattle.log_parts.specs.declared.heads.Declared.{Declared}
use Rattle.log_parts.specs.Heads.{items_of, lines_on}

-- of two lists the first items that differ stand behind the same ones, and the one of the second list begins on this line, where its items begin on these
pub record IsOtherItem {X : Type 0} (given own : List X) (lines : List ℕ) (line : ℕ) : Type 0 where
  pub same : List X
  pub item : X
  pub later : List X
  pub other : X
  pub others : List X
  pub listed : given ≡ same ++ item ∷ later
  pub listed_own : own ≡ same ++ other ∷ others
  pub differs : other ≢ item
  pub begins : line ≡ slice_index_or lines (length same) 0

-- one list is a first part of the other, and they are not the same: line 1
pub record IsOtherCount {X : Type 0} (given own : List X) (line : ℕ) : Type 0 where
  pub rest : List X
  pub some : rest ≢ []
  pub first : (own ≡ given ++ rest) ⊎ (given ≡ own ++ rest)
  pub at : line ≡ 1

-- lists differ: the first item that differs begins on this line; line 1 where one list is a first part of the other
abbrev pub AreOther : {X : Type 0} → List X → List X → List ℕ → ℕ → Type 0
AreOther given own lines line = IsOtherItem given own lines line ⊎ IsOtherCount given own line

-- a log declares other sums, setups or derivations than these: the first sum, setup, cut or row that differs begins on this line, and line 1 where one head is a first part of the other
abbrev pub IsOtherHead : Declared → Declared → ℕ → Type 0
IsOtherHead given own line = AreOther (items_of given) (items_of own) (lines_on own) line
