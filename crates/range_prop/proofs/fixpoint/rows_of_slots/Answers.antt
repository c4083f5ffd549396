-- A row that does not wait has none of these slots.
use Rattle.std.proofs.Common.{arith}
use Rattle.range_prop.proofs.Rounds.{woken_quiet}
use Rattle.range_prop.proofs.fixpoint.rows_of_slots.Goals as goal

pub wake_slots-requires-clause-rows : goal.wake_slots-requires-clause-rows
wake_slots-requires-clause-rows c = λ slot row listed. omega (arith, ((c.requires.index slot row).0 listed).0, c.in_ok-queue.ensures, c.len-count.ensures)

pub returns-clause-quiet : goal.returns-clause-quiet
returns-clause-quiet c = λ domains room.
    let rows = c.args.program.now.rows in
    woken_quiet rows c.args.index.now c.args.slots.now c.wake_slots.new.queue.waiting.items _ domains c.requires.index (omega (arith, c.len-count.ensures, c.args.program.now.few_rows)) c.in_ok-wake_slots.ensures.woken room
