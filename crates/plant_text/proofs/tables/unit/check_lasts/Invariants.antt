use Rattle.toml.specs.View.{view}
use Rattle.plant_text.specs.Scope.{scope_of}
use Rattle.plant_text.specs.Tables.{last_tests}
use Rattle.plant_text.proofs.Reading.{IsNumbered}
use Rattle.plant_text.proofs.tables.unit.check_lasts.Given as goal

abbrev pub invariant-loop-number : goal.invariant-loop-number
invariant-loop-number l = IsNumbered view (last_tests (scope_of l.context)) l.units l.number
