use Rattle.std.proofs.Common.{◌≡◌, map, take}
use Rattle.toml.specs.View.{view}
use Rattle.plant_make.specs.Printed.{made_of}
use Rattle.plant_make.proofs.rows.rows.Given as goal

abbrev pub invariant-loop-row : goal.invariant-loop-row
invariant-loop-row g l = map view l.values.items ≡ map (λ row. made_of (g.R.Row.entries l.plant l.quantum row)) (take l.row-index l.records)
