-- The parts of a side of a task, and their amounts.
use Rattle.std.proofs.Common.{◌≡◌, ℕ, Bool, List, ◌++◌, map, All, Option, Some, None, refl, arith, get_or, option_map}
use Rattle.std.specs.Prelude.{unwrap_or, IfSome}
use Rattle.std.proofs.lemmas.List.Elements.{All-map}
use Rattle.fraction.specs.declared.fraction_of.Fraction.{Fraction}
use Rattle.fraction.specs.Fractions.{IsProper, fraction_in}
use Rattle.fraction.proofs.Written.{IsWrittenAs, IsWrittenAs-fraction_in}
use Rattle.toml.specs.Data.{Data}
use Rattle.plant_text.specs.declared.tables.side.SidePart.{SidePart}
use Rattle.plant_text.specs.declared.fault.Place.{Place}
use Rattle.plant_text.specs.declared.fault.KeyName.{KeyName}
use Rattle.plant_text.specs.declared.fault.KeyName.TheVariants as key
use Rattle.plant_text.specs.Tests.{Test}
use Rattle.plant_text.specs.Fields.{part_of, whole_part, text_of, held, members_of, needed, kind_tests, tables, items_of}
use Rattle.plant_text.specs.Scope.{Scope}
use Rattle.plant_text.specs.Tables.{side_of}

-- what is written of a fraction is proper
written_proper : (text : List ℕ) (found : Option Fraction) → IsWrittenAs text found → IfSome found IsProper
written_proper text None written = tt
written_proper text (Some part) written = written.0

text_proper : (text : List ℕ) → IfSome (fraction_in text) IsProper
text_proper text = written_proper text (fraction_in text) (IsWrittenAs-fraction_in text (fraction_in text) refl)

whole_proper : IsProper whole_part
whole_proper = record { some = omega arith; most = omega arith; small = omega arith }

found_proper : (found : Option Fraction) → IfSome found IsProper → IsProper (unwrap_or found whole_part)
found_proper None proper = whole_proper
found_proper (Some part) proper = proper

held_proper : (found : Option Data) → IsProper (unwrap_or (option_map part_of found) whole_part)
held_proper None = whole_proper
held_proper (Some d) = found_proper (fraction_in (text_of d)) (text_proper (text_of d))

-- the part of an item of a side is proper
pub side_proper : (scope : Scope) (output : Bool) (d : Data) → IsProper (side_of scope output d).part
unfolding side_of
side_proper scope output d = held_proper (held (members_of d) (needed key.Part))

-- the parts of a side are proper
pub sides_proper : (scope : Scope) (output : Bool) (ds : List Data) → All (λ (side : SidePart). IsProper side.part) (map (side_of scope output) ds)
sides_proper scope output ds = All-map (λ (side : SidePart). IsProper side.part) (side_of scope output) ds (λ k d lt. side_proper scope output (get_or ds k d))

-- the tests of an array whose items are followed by more tests
pub tables_more : (place : Place) (word : KeyName) (most : ℕ) (front back : List Data → List Test) (d : Data)
    → kind_tests place word (tables most (λ ds. front ds ++ back ds)) d ≡ kind_tests place word (tables most front) d ++ back (items_of d)
unfolding kind_tests
tables_more place word most front back d = refl
