use Rattle.order_conflict.specs.Passes.{IsPassed}
use Rattle.order_conflict.proofs.passes.pass.Given as goal

abbrev pub invariant-loop-place : goal.invariant-loop-place
invariant-loop-place g l = IsPassed l.plant l.budget l.fn.marks.items l.marks.items l.changed l.place
