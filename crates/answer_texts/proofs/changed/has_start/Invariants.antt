use Rattle.std.proofs.Common.{◌≡◌, drop}
use Rattle.answer_texts.specs.Changed.{has_start}
use Rattle.answer_texts.proofs.changed.has_start.Given as goal

abbrev pub invariant-loop-other : goal.invariant-loop-other
invariant-loop-other l = has_start l.plan l.start ≡ has_start (drop l.other-index l.plan) l.start
