use Rattle.std.proofs.Common.{◌≡◌, ◌++◌, take}
use Rattle.std.specs.List.{flat_map}
use Rattle.plan_tables.specs.Batches.{line_among}
use Rattle.plan_tables.proofs.batches.push_lines.Given as goal

abbrev pub invariant-loop-b : goal.invariant-loop-b
invariant-loop-b l = l.text.items ≡ l.initial.text.items ++ flat_map (line_among l.plant l.batches) (take l.b-index l.ordered)
