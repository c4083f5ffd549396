-- Each cut keeps the points that keep the rows, and the area stays one of normal domains.
use Rattle.std.proofs.Common.{length}
use Rattle.row_kit.specs.Area.{present}
use Rattle.range_prop.proofs.Rooms.{HaveRoom-done}
use Rattle.range_prop.proofs.Sequences.{HasCut-normal, HasCut-points, HasCut-points_le}
use Rattle.range_prop.proofs.fixpoint.cut_or_back.Goals as goal

pub returns-in-Ok-clause-points : goal.returns-in-Ok-clause-points
returns-in-Ok-clause-points c = λ point lies kept.
    let program = c.args.program.now in
    HasCut-points program.rows (length program.root) c.args.area.now c.cut_until_done.new.area c.args.cuts.now.items c.cut_until_done.new.cuts.items point c.in-Ok.ensures.cut (λ k d lt. (program.rows_bounded k d lt).entries.named) c.requires.slots c.slot_count-slots.ensures.normal lies kept

pub returns-in-Ok-clause-fewer : goal.returns-in-Ok-clause-fewer
returns-in-Ok-clause-fewer c =
    HasCut-points_le c.args.program.now.rows c.args.area.now c.cut_until_done.new.area c.args.cuts.now.items c.cut_until_done.new.cuts.items c.in-Ok.ensures.cut c.slot_count-slots.ensures.normal

pub returns-in-Ok-clause-done : goal.returns-in-Ok-clause-done
returns-in-Ok-clause-done c =
    let rows = c.args.program.now.rows in
    HaveRoom-done rows (present c.cut_until_done.new.area)
    (HasCut-normal rows c.args.area.now c.cut_until_done.new.area c.args.cuts.now.items c.cut_until_done.new.cuts.items c.in-Ok.ensures.cut c.slot_count-slots.ensures.normal)
    c.in-Ok.ensures.room
