-- One place more ascends, or does not.
use Rattle.std.proofs.Common.{arith}
use Rattle.row_kit.proofs.Ascending.{ascends_more, descends_at}
use Rattle.derived_rows.proofs.declared.are_ascending.Goals as goal

pub returns-then-entries-place : goal.returns-then-entries-place
returns-then-entries-place c =
    (λ e. absurd (cc), λ ascends. absurd (descends_at c.args.entries.now c.loop-place.place (omega arith) c.loop-place-test.true c.if-entries-place.true ascends))

pub loop-place-preserved : goal.loop-place-preserved
loop-place-preserved c =
    ascends_more c.args.entries.now c.loop-place.place c.loop-place.invariant c.loop-place-test.true c.if-entries-place.false
