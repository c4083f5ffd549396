use Rattle.std.proofs.Common.{◌≡◌, length}
use Rattle.toml.specs.View.{view}
use Rattle.plant_text.specs.Scope.{scope_of}
use Rattle.plant_text.proofs.Reading.{IsAt}
use Rattle.plant_text.proofs.rows.read_rows.Given as goal

abbrev pub invariant-loop-item : goal.invariant-loop-item
invariant-loop-item g l = record {
  is_at : IsAt view (g.R.Row.tests (scope_of l.context) l.owner) (g.R.Row.made (scope_of l.context) l.owner) l.items l.item-index l.rows;
  few : length l.rows ≡ l.item-index;
}
