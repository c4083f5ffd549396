-- The entries so far count little more than at their least.
use Rattle.range_prop.proofs.Looks.{IsCutTo}
use Rattle.range_prop.proofs.look.cut_entries.Given as goal

abbrev pub invariant-loop-entry : goal.invariant-loop-entry
invariant-loop-entry l = IsCutTo l.program.rows l.entries l.slack l.initial.area l.area l.initial.cuts.items l.cuts.items l.entry-index
