use Rattle.std.proofs.Common.{ℤ, List}
use Rattle.toml.specs.Data.{Data}
use Rattle.toml.specs.View.{view}
use Rattle.plant_text.specs.Fields.{money_tests, integer_of}
use Rattle.plant_text.proofs.Reading.{IsAt}
use Rattle.plant_text.proofs.values.read_amounts.Given as goal

abbrev pub invariant-loop-item : goal.invariant-loop-item
invariant-loop-item l = IsAt view (λ (earlier : List ℤ) (x : Data). money_tests l.place l.name l.most x) integer_of l.items l.item-index l.amounts
