-- The field table's rows: a key, what it has to hold, and the tests of its value.
use Rattle.std.specs.Prelude.{ℕ, ℤ, pos, negsuc, Bool, true, false, not, ◌&&◌, ◌||◌, ◌==◌, nat_lt, nat_le, int_le, unsigned_abs, List, [], ◌∷◌, ◌++◌, length, map, Option, Some, None, is_none, option_map, unwrap_or, if◌then◌else◌}
use Rattle.std.specs.List.{list_any}
use Rattle.std.specs.Str.{bytes_eq}
use Rattle.toml.specs.Data.{Data, Items, no_items, item, Members, no_members, member, get_member, as_str, as_integer, as_array, as_table}
use Rattle.stn_model.specs.Sound.{is_name}
use Rattle.stn_model.specs.Labels.{is_label, is_colour}
use Rattle.fraction.specs.declared.fraction_of.Fraction.{Fraction}
use Rattle.fraction.specs.Fractions.{fraction_in}
use Rattle.plant_text.specs.declared.fault.PlantFault.{PlantFault}
use Rattle.plant_text.specs.declared.fault.Place.{Place}
use Rattle.plant_text.specs.declared.fault.KeyName.{KeyName}
use Rattle.plant_text.specs.declared.fault.KeyName.TheVariants as key
use Rattle.plant_text.specs.declared.find.Key.{Key}
use Rattle.plant_text.specs.Words.{key_word}
use Rattle.plant_text.specs.Tests.{Test, rows_tests}
use Rattle.plant_text.specs.Moments.{moment_in}

-- the fault of a kind at a place and a key
abbrev pub fault : ℕ → Place → KeyName → PlantFault
fault kind place name = record { kind = kind; table = place.table; item = place.item; inner = place.inner; key = name }

-- the items of an array as a list
abbrev pub list_of : Items → List Data
list_of no_items = []
list_of (item d ds) = d ∷ list_of ds

-- the text, the number, the items and the members of a value; of another value nothing, or 0
abbrev pub text_of : Data → List ℕ
text_of d = unwrap_or (as_str d) []

abbrev pub integer_of : Data → ℤ
integer_of d = unwrap_or (as_integer d) (pos 0)

abbrev pub items_of : Data → List Data
items_of d = list_of (unwrap_or (as_array d) no_items)

abbrev pub members_of : Data → Members
members_of d = unwrap_or (as_table d) no_members

-- the whole number, where it is not negative
abbrev pub natural : ℤ → ℕ
natural (pos n) = n
natural (negsuc n) = 0

abbrev pub count_of : Data → ℕ
count_of d = natural (integer_of d)

-- a whole number from low to high
abbrev pub is_within : ℕ → ℕ → ℤ → Bool
is_within low high (pos n) = nat_le low n && nat_le n high
is_within low high (negsuc n) = false

-- where a name is declared: the first item of its table that has it
abbrev pub Places : Type 0
Places = List ℕ → Option ℕ

-- the name is declared before this item
abbrev pub is_before : Option ℕ → ℕ → Bool
is_before None number = false
is_before (Some place) number = nat_lt place number

-- what a key has to hold
pub data Kind : Type 0 where
  -- a text that declares a name: where the names of its table are declared, and its item, counted from 0
  declares : Places → ℕ → Kind
  -- a text that refers to a name that is declared
  refers : Places → Kind
  -- a text that mentions a name: whether it is declared is looked at later
  mentions : Kind
  -- a text that is a label
  label : Kind
  -- a text that is a colour
  colour : Kind
  -- a local date-time in whole seconds
  moment : Kind
  -- a text that is a fraction of one
  part : Kind
  -- a whole number in a range
  count : ℕ → ℕ → Kind
  -- a whole number of at most this absolute value
  money : ℕ → Kind
  -- a time between two others: whether it stands alone, without the key that it needs, and the two
  time : Bool → ℤ → ℤ → Kind
  -- an array of numbers: whether another key forbids it, how many, and the most that each may be
  numbers : Bool → ℕ → ℕ → Kind
  -- an array of numbers of at most this absolute value: whether another key forbids it, and how many
  amounts : Bool → ℕ → ℕ → Kind
  -- an array of at most so many tables, with the tests of its items
  tables : ℕ → (List Data → List Test) → Kind

-- the tests of a whole number
abbrev pub count_tests : Place → KeyName → ℕ → ℕ → Data → List Test
count_tests place name low high d =
    (is_none (as_integer d), fault 6 place name)
    ∷ (not (is_within low high (integer_of d)), fault 7 place name) ∷ []

-- the tests of a whole number that has at most an absolute value
abbrev pub money_tests : Place → KeyName → ℕ → Data → List Test
money_tests place name most d =
    (is_none (as_integer d), fault 6 place name)
    ∷ (not (nat_le (unsigned_abs (integer_of d)) most), fault 7 place name) ∷ []

-- a whole number from low to high, either of which may be negative
abbrev pub is_between : ℤ → ℤ → ℤ → Bool
is_between low high z = int_le low z && int_le z high

-- the tests of a time
abbrev pub time_tests : Place → KeyName → Bool → ℤ → ℤ → Data → List Test
time_tests place name alone low high d =
    (is_none (as_integer d), fault 6 place name)
    ∷ (not (is_between low high (integer_of d)), fault 7 place name)
    ∷ (alone, fault 23 place name) ∷ []

-- the tests of an array of so many values, each with its own tests
abbrev pub list_tests : {X : Type 0} → Place → KeyName → Bool → ℕ → (Data → List Test) → (Data → X) → Data → List Test
list_tests {X} place name forbidden many each value d =
    (is_none (as_array d), fault 6 place name)
    ∷ (forbidden, fault 21 place name)
    ∷ (not (length (items_of d) == many), fault 17 place name)
    ∷ rows_tests (λ (earlier : List X) (x : Data). each x) value [] (items_of d)

-- the tests of a value by what it has to be
unfoldable pub kind_tests : Place → KeyName → Kind → Data → List Test
kind_tests place name (declares places number) d =
    (is_none (as_str d), fault 6 place name)
    ∷ (not (is_name (text_of d)), fault 8 place name)
    ∷ (is_before (places (text_of d)) number, fault 9 place name) ∷ []
kind_tests place name (refers places) d =
    (is_none (as_str d), fault 6 place name)
    ∷ (is_none (places (text_of d)), fault 10 place name) ∷ []
kind_tests place name mentions d = (is_none (as_str d), fault 6 place name) ∷ []
kind_tests place name label d =
    (is_none (as_str d), fault 6 place name)
    ∷ (not (is_label (text_of d)), fault 24 place name) ∷ []
kind_tests place name colour d =
    (is_none (as_str d), fault 6 place name)
    ∷ (not (is_colour (text_of d)), fault 25 place name) ∷ []
kind_tests place name moment d = (is_none (moment_in d), fault 6 place name) ∷ []
kind_tests place name part d =
    (is_none (as_str d), fault 6 place name)
    ∷ (is_none (fraction_in (text_of d)), fault 11 place name) ∷ []
kind_tests place name (count low high) d = count_tests place name low high d
kind_tests place name (money most) d = money_tests place name most d
kind_tests place name (time alone low high) d = time_tests place name alone low high d
kind_tests place name (numbers forbidden many most) d = list_tests place name forbidden many (count_tests place name 0 most) count_of d
kind_tests place name (amounts forbidden many most) d = list_tests place name forbidden many (money_tests place name most) integer_of d
kind_tests place name (tables most below) d =
    (is_none (as_array d), fault 6 place name)
    ∷ (nat_lt most (length (items_of d)), fault 14 place name) ∷ below (items_of d)

-- the tests of what a key holds
unfoldable pub value_tests : Place → Key → Kind → Option Data → List Test
value_tests place key kind None = (key.required, fault 5 place key.name) ∷ []
value_tests place key kind (Some d) = kind_tests place key.name kind d

-- a row of the field table: a key, and what it has to hold
pub record Field : Type 0 where
  pub key : Key
  pub kind : Kind

-- what a table holds at a key; nothing at a key that the file's version does not know
abbrev pub held : Members → Key → Option Data
held members key = if key.known then get_member (key_word key.name) members else None

-- what stands at a key, read in a way; the default where the key is absent
abbrev pub at_key : {X : Type 0} → (Data → X) → X → Members → Key → X
at_key read default members key = unwrap_or (option_map read (held members key)) default

-- the text at a key
abbrev pub text_at : Members → Key → List ℕ
text_at members key = at_key text_of [] members key

-- the items of the array at a key
abbrev pub items_at : Members → Key → List Data
items_at members key = at_key items_of [] members key

-- the numbers of an array
abbrev pub numbers_of : Data → List ℕ
numbers_of d = map count_of (items_of d)

-- the amounts of an array
abbrev pub amounts_of : Data → List ℤ
amounts_of d = map integer_of (items_of d)

-- the place of the name that a value refers to
abbrev pub place_of : Places → Data → ℕ
place_of places d = unwrap_or (places (text_of d)) 0

-- the whole as a part of itself, in the place of a part that is not there
abbrev pub whole_part : Fraction
whole_part = record { over = 1; under = 1 }

-- the part that a value is
abbrev pub part_of : Data → Fraction
part_of d = unwrap_or (fraction_in (text_of d)) whole_part

-- the tests of a row
abbrev pub field_tests : Place → Members → Field → List Test
field_tests place members field = value_tests place field.key field.kind (held members field.key)

-- the tests of some rows, in their order
abbrev pub fields_tests : Place → Members → List Field → List Test
fields_tests place inside [] = []
fields_tests place inside (field ∷ fields) = field_tests place inside field ++ fields_tests place inside fields

-- the word is that of the key, and the file's version knows it
abbrev pub is_of : List ℕ → Key → Bool
is_of word key = key.known && bytes_eq (key_word key.name) word

-- the word is that of a key that the file's version knows
abbrev pub is_known : List Key → List ℕ → Bool
is_known keys word = list_any (is_of word) keys

-- the members have a key that is not known
abbrev pub has_unknown : List Key → Members → Bool
has_unknown keys no_members = false
has_unknown keys (member word d more) = not (is_known keys word) || has_unknown keys more

-- the keys of some rows
abbrev pub keys_of : List Field → List Key
keys_of fields = map (λ field. field.key) fields

-- the tests of an item as a whole: a table, and no unknown key
unfoldable pub head_tests : Place → List Key → Data → List Test
head_tests place keys d =
    (is_none (as_table d), fault 6 place key.Whole)
    ∷ (has_unknown keys (members_of d), fault 4 place key.Whole) ∷ []

-- the tests of an item of a table: as a whole, then its keys in order
abbrev pub table_tests : Place → List Field → Data → List Test
table_tests place fields d = head_tests place (keys_of fields) d ++ fields_tests place (members_of d) fields

-- a key that each item has, one that it may have, and one that it may have from a version on, which the file is of
abbrev pub needed : KeyName → Key
needed name = record { name = name; known = true; required = true }

abbrev pub optional : KeyName → Key
optional name = record { name = name; known = true; required = false }

abbrev pub since : Bool → KeyName → Key
since known name = record { name = name; known = known; required = false }

-- a key from a version on, which is needed where another is there
abbrev pub beside : Bool → Bool → KeyName → Key
beside known there name = record { name = name; known = known; required = there }

-- a row of the field table
abbrev pub row : Key → Kind → Field
row key kind = record { key = key; kind = kind }
