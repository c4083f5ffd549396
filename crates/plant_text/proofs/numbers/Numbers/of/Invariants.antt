use Rattle.std.proofs.Common.{◌≡◌, ℕ, List, map, take}
use Rattle.std.specs.HashMap.{get_by_text}
use Rattle.toml.specs.View.{view}
use Rattle.plant_text.specs.Names.{name_in, first_places}
use Rattle.plant_text.proofs.numbers.Numbers.of.Given as goal

abbrev pub invariant-loop-place : goal.invariant-loop-place
invariant-loop-place l = (name : List ℕ) → get_by_text l.places name ≡ first_places (map name_in (map view (take l.place l.items))) name
