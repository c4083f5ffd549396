use Rattle.std.proofs.Common.{◌≡◌, map, take}
use Rattle.unit_rows.specs.Firsts.{run_ready}
use Rattle.unit_rows.proofs.firsts.ready_times.Given as goal

abbrev pub invariant-loop-run : goal.invariant-loop-run
invariant-loop-run l = l.times.items ≡ map (run_ready l.plant) (take l.run-index l.run-items)
