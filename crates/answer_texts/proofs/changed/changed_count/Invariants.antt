use Rattle.std.proofs.Common.{◌≡◌, ◌≤◌, take}
use Rattle.answer_texts.specs.Changed.{changed_count}
use Rattle.answer_texts.proofs.changed.changed_count.Given as goal

abbrev pub invariant-loop-start : goal.invariant-loop-start
invariant-loop-start l = record { counted : l.count ≡ changed_count l.period (take l.start-index l.plan) l.other; small : l.count ≤ l.start-index }
