-- What has been cut so far, and which rows still wait.
use Rattle.std.proofs.Common.{◌≡◌, ◌+◌, ◌*◌, true, false, length, cond}
use Rattle.std.specs.List.{All, sum_by}
use Rattle.row_kit.specs.Area.{present}
use Rattle.row_kit.specs.Domain.{count_of, IsOpen}
use Rattle.range_prop.specs.Cuts.{HasCut, HaveRoom}
use Rattle.range_prop.specs.laws.Queue.{AreQuiet}
use Rattle.range_prop.proofs.propagation.cut_until_done.Given as goal

abbrev pub invariant-loop-more : goal.invariant-loop-more
invariant-loop-more l = record {
  cut : HasCut l.program.rows l.initial.area l.area l.initial.cuts.items l.cuts.items;
  room : l.more ≡ false → HaveRoom l.program.rows (present l.area);
  open' : l.more ≡ true → All IsOpen (present l.area);
  quiet : l.more ≡ true → AreQuiet l.program.rows (present l.area) l.queue.waiting.items;
  count : length l.queue.waiting.items ≡ length l.program.rows;
}

abbrev pub decreases-loop-more : goal.decreases-loop-more
decreases-loop-more l = 524288 * sum_by count_of (present l.area) + length l.queue.rows.items + cond l.more 1 0
