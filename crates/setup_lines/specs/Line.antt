-- The line of a setup, and the text of setups.
use Rattle.std.specs.Prelude.{◌≡◌, ◌≢◌, ℕ, Option, MatchOption, List, [], ◌∷◌, ◌++◌, flat_map, codes, decimal}
use Rattle.sum_lines.specs.Line.{IsShort}

-- the line that declares the setup of a unit, without its line feed
unfoldable pub setup_line : ℕ → List ℕ
setup_line unit = codes "setup " ++ decimal unit

-- the text of the setups of units: the line of each, with a line feed (10)
unfoldable pub setups_text : List ℕ → List ℕ
setups_text units = flat_map (λ unit. setup_line unit ++ 10 ∷ []) units

-- the answer is the unit whose line the bytes are, among those of at most 30 digits, and none only where there is none
abbrev pub IsUnitOf : List ℕ → Option ℕ → Type 0
IsUnitOf bytes answer = MatchOption answer ((unit : ℕ) → IsShort unit → setup_line unit ≢ bytes) (λ unit. IsShort unit × (setup_line unit ≡ bytes))
