-- One cell changes the room of its row.
use Rattle.std.proofs.Common.{◌∙◌, ◌+◌, ◌*◌, ◌^◌, ◌+ℤ◌, ◌-ℤ◌, List, ℤ, ap, drop, arith}
use Rattle.row_rooms.specs.Rooms.{cells_at, room_at}
use Rattle.row_rooms.proofs.Turning.{cells_more, no_cell}
use Rattle.row_rooms.proofs.rooms.change.Goals as goal

pub loop-cell-preserved : goal.loop-cell-preserved
loop-cell-preserved c =
    let cells = c.args.cells.now in
    let i = c.loop-cell.cell-index in
    let rooms = c.loop-cell.rooms in
    let named = c.requires.named i no_cell c.loop-cell-test.true in
    let step = c.change_one-count.ensures in
    record {
      left = λ row lt.
          ap (λ (zs : List ℤ). room_at zs row +ℤ cells_at (drop (i + 1) cells) row c.args.former -ℤ cells_at (drop (i + 1) cells) row c.args.value) step.rooms
          ∙ cells_more cells i rooms row c.args.former c.args.value c.loop-cell-test.true (omega (arith, named, c.loop-cell.auto.rooms))
          ∙ c.loop-cell.invariant.left row (omega arith);
      small = λ k d lt. omega (arith, step.small (2 ^ 64 + 2 ^ 41 * i) c.loop-cell.invariant.small k d lt);
      broken = step.broken;
    }
