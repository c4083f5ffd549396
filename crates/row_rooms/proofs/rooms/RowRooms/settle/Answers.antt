-- The rooms are those of the program by which points are judged, and domains settle by their first ones.
use Rattle.std.proofs.Common.{◌∙◌, ap, length, subst, sym, take}
use Rattle.row_kit.specs.declared.program.Program.{Program}
use Rattle.row_kit.specs.Area.{present}
use Rattle.row_relax.specs.Settle.{settled}
use Rattle.row_relax.proofs.Choosing.{first-settled}
use Rattle.row_rooms.specs.Rooms.{IsRoomsOf}
use Rattle.row_rooms.proofs.rooms.RowRooms.settle.Goals as goal

pub settle_first-requires : goal.settle_first-requires
settle_first-requires c = subst (λ (program : Program). IsRoomsOf program c.args.self.now) (sym c.choices_of.ensures) c.requires.rooms

pub returns-clause-rooms : goal.returns-clause-rooms
returns-clause-rooms c = subst (λ (program : Program). IsRoomsOf program c.settle_first.new.self) c.choices_of.ensures c.settle_first.ensures.rooms

pub returns-clause-cap : goal.returns-clause-cap
returns-clause-cap c =
    let ds = present c.args.area.now in
    c.settle_first.ensures.cap
    ∙ ap (λ (program : Program). settled program (take (length program.root) ds)) c.choices_of.ensures
    ∙ first-settled c.args.rows.now ds c.requires.slots
