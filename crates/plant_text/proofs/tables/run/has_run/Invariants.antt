use Rattle.std.proofs.Common.{◌≡◌, drop}
use Rattle.plant_text.specs.Tables.{has_run}
use Rattle.plant_text.proofs.tables.run.has_run.Given as goal

abbrev pub invariant-loop-other : goal.invariant-loop-other
invariant-loop-other l = has_run (drop l.other-index l.earlier) l.run ≡ has_run l.earlier l.run
