use Rattle.std.proofs.Common.{ℕ, List}
use Rattle.toml.specs.Data.{Data}
use Rattle.toml.specs.View.{view}
use Rattle.plant_text.specs.Fields.{count_tests, count_of}
use Rattle.plant_text.proofs.Reading.{IsAt}
use Rattle.plant_text.proofs.values.read_numbers.Given as goal

abbrev pub invariant-loop-item : goal.invariant-loop-item
invariant-loop-item l = IsAt view (λ (earlier : List ℕ) (x : Data). count_tests l.place l.name 0 l.most x) count_of l.items l.item-index l.numbers
