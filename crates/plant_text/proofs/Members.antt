-- The members of a table beside the entries of its map.
use Rattle.std.proofs.Common.{◌≡◌, ◌∙◌, Option, Some, None, is_some, false, List, [], ◌∷◌, ◌||◌, not, Bool, refl, ap, map, String, Global, string_bytes}
use Rattle.std.specs.Option.{unwrap_or}
use Rattle.std.specs.List.{list_any}
use Rattle.std.specs.Map.{keys_of}
use Rattle.toml.specs.declared.value.Value.{Value}
use Rattle.toml.specs.View.{members_view, view, items_view}
use Rattle.toml.specs.Data.{Data, as_array, no_items, Items}
use Rattle.plant_text.specs.declared.find.Key.{Key}
use Rattle.plant_text.specs.Fields.{is_known, has_unknown, list_of, items_of}

-- a key of the map is not known
abbrev pub is_strange : List Key → String Global → Bool
is_strange keys word = not (is_known keys (string_bytes word))

pub strange_members : (keys : List Key) (es : List (String Global × Value)) → has_unknown keys (members_view es) ≡ list_any (is_strange keys) (keys_of es)
strange_members keys [] = refl
strange_members keys (e ∷ es) = ap (λ b. is_strange keys e.0 || b) (strange_members keys es)

-- the items of an array in code, as a list of data
pub list_view : (vs : List Value) → list_of (items_view vs) ≡ map view vs
list_view [] = refl
list_view (v ∷ vs) = ap (λ ds. view v ∷ ds) (list_view vs)

pub items_at_array : (d : Data) (vs : List Value) → as_array d ≡ Some (items_view vs) → items_of d ≡ map view vs
items_at_array d vs e = ap (λ (o : Option Items). list_of (unwrap_or o no_items)) e ∙ list_view vs

-- what is no array has no items
none_in : (o : Option Items) → is_some o ≡ false → list_of (unwrap_or o no_items) ≡ []
none_in None e = refl
none_in (Some items) e = absurd cc

pub no_items_in : (d : Data) → is_some (as_array d) ≡ false → items_of d ≡ []
no_items_in d e = none_in (as_array d) e
