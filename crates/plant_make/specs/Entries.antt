-- Tables of a plant file as they are printed: keys and what they hold.
use Rattle.std.specs.Prelude.{ℕ, ℤ, pos, List, [], ◌∷◌, map, Option, Some, None}
use Rattle.std.specs.Ordering.{nat_cmp, match_ordering}
use Rattle.std.specs.Cmp.Lexicographic.{slice_cmp}
use Rattle.std.specs.List.{fold}
use Rattle.toml.specs.Data.{Data, string, integer, array, Members, no_members, member}
use Rattle.toml.specs.View.{items_of}
use Rattle.plant_text.specs.declared.fault.KeyName.{KeyName}
use Rattle.plant_text.specs.Words.{key_word}

-- the members with one more, in the order of the keys; a key that is there gets the new value
abbrev pub with_member : List ℕ → Data → Members → Members
with_member word d no_members = member word d no_members
with_member word d (member other e more) =
    match_ordering (slice_cmp nat_cmp word other) (member word d (member other e more)) (member other d more) (member other e (with_member word d more))

-- a key, and what it holds; a key that holds nothing is left out
abbrev pub Entry : Type 0
Entry = KeyName × Option Data

-- the members with an entry
abbrev pub with_entry : Members → Entry → Members
with_entry members (which, None) = members
with_entry members (which, Some d) = with_member (key_word which) d members

-- the table of some entries
unfoldable pub table_of : List Entry → Members
table_of entries = fold with_entry no_members entries

-- a whole number
abbrev pub number : ℕ → Data
number n = integer (pos n)

-- a text, left out where it is empty
abbrev pub some_text : List ℕ → Option Data
some_text [] = None
some_text (byte ∷ text) = Some (string (byte ∷ text))

-- an array of values, and one of whole numbers
abbrev pub array_of : List Data → Data
array_of ds = array (items_of ds)

abbrev pub numbers : List ℕ → Data
numbers ns = array_of (map number ns)

-- an array that is left out where it is empty
abbrev pub some_items : List Data → Option Data
some_items [] = None
some_items (d ∷ ds) = Some (array_of (d ∷ ds))

-- an array of amounts of money, left out where it is empty
abbrev pub some_amounts : List ℤ → Option Data
some_amounts xs = some_items (map integer xs)
