-- Where names are declared.
use Rattle.std.specs.Prelude.{◌≡◌, ℕ, List, Some, true, ◌&&◌, is_none, if◌then◌else◌}
use Rattle.std.specs.List.{position_from}
use Rattle.std.specs.Str.{bytes_eq}
use Rattle.std.specs.HashMap.{get_by_text}
use Rattle.toml.specs.Data.{Data}
use Rattle.plant_text.specs.declared.fault.KeyName.TheVariants as key
use Rattle.plant_text.specs.declared.numbers.Numbers.{Numbers}
use Rattle.plant_text.specs.Fields.{Places, members_of, text_at}

-- the name that an item declares; the empty name where it has none
abbrev pub name_in : Data → List ℕ
name_in d = text_at (members_of d) (record { name = key.Name; known = true; required = true })

-- where each name of a list has its first place
abbrev pub first_places : List (List ℕ) → Places
first_places names name = position_from (bytes_eq name) 0 names

-- where the numbers say that a name is declared
abbrev pub places_in : Numbers → Places
places_in numbers name = get_by_text numbers.places name

-- the places with one more name: a name that is there keeps its place
abbrev pub with_name : Places → List ℕ → ℕ → Places
with_name places name place other = if is_none (places name) && bytes_eq name other then Some place else places other

-- each name has its place with the one more
abbrev pub Notes : Places → List ℕ → ℕ → Places → Type 0
Notes old name place new = (other : List ℕ) → new other ≡ with_name old name place other
