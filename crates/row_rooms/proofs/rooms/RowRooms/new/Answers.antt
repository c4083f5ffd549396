-- Where no slot is started, the limits are left.
use Rattle.std.proofs.Common.{◌∙◌, map, ap}
use Rattle.std.specs.List.{sum_by}
use Rattle.row_kit.specs.declared.row.Row.{Row}
use Rattle.row_rooms.specs.Rooms.{broken_by}
use Rattle.row_rooms.proofs.Left.{begun_rooms, zeros}
use Rattle.row_rooms.proofs.rooms.RowRooms.new.Goals as goal

pub returns : goal.returns
returns c =
    let program = c.args.program.now in
    begun_rooms program (record { columns = c.in_ok-columns.columns; point = c.in_ok-vec.field-0; rooms = c.in_ok-rooms.rooms; broken = c.broken_count-broken.result })
    c.in_ok-columns.ensures.length c.in_ok-columns.ensures.columns
    (c.in_ok-vec.ensures.items_if_clones_equal (λ y e. e) ∙ ap zeros c.len.ensures)
    (c.in_ok-rooms.ensures ∙ ap (map (λ (row : Row). row.limit)) c.as_slice.ensures)
    (c.broken_count-broken.ensures ∙ ap (sum_by broken_by) c.as_slice-2.ensures.value)
