-- Each command's work comes to what its call promises.
use Rattle.std.proofs.Common.{ap, refl}
use Rattle.command_words.specs.Words.{meaning, Parting, Joining}
use Rattle.part_commands.proofs.JoinLemmas.{parts_allowed}
use Rattle.stn_top.proofs.FileLemmas.{kept_joined}
use Rattle.stn_top.proofs.DoneLemmas.{only_read, wrote}
use Rattle.stn_top.proofs.rooms.part_reply.Goals as goal

pub returns-in-Parts-clause-done : goal.returns-in-Parts-clause-done
returns-in-Parts-clause-done g c =
    rw c.in-Parts.is (only_read (Parting c.in-Parts.plant.now c.in-Parts.levels.number) (g.F.Shelf.files c.args.files.now) (g.F.Shelf.files c.parts_file.new.files) (g.F.Shelf.read_faults c.args.files.now) (g.F.Shelf.read_faults c.parts_file.new.files)
    (g.F.Shelf.write_faults c.args.files.now) (g.F.Shelf.write_faults c.parts_file.new.files) c.parts_file.result
    c.parts_file.ensures.answer c.parts_file.ensures.fault c.parts_file.ensures.unwritten c.parts_file.ensures.kept.same c.parts_file.ensures.kept.later c.parts_file.ensures.kept.no_write)

pub returns-in-Join-clause-done : goal.returns-in-Join-clause-done
returns-in-Join-clause-done g c =
    rw c.in-Join.is (wrote (Joining c.in-Join.plant.now c.in-Join.levels.number c.in-Join.stem.now c.in-Join.log.now) (g.F.Shelf.files c.args.files.now) (g.F.Shelf.files c.join_file.new.files) (g.F.Shelf.read_faults c.args.files.now) (g.F.Shelf.read_faults c.join_file.new.files)
    (g.F.Shelf.write_faults c.args.files.now) (g.F.Shelf.write_faults c.join_file.new.files) c.join_file.result
    c.join_file.ensures.answer c.join_file.ensures.refused c.join_file.ensures.fault (λ _ first. absurd (first.joins_none c.in-Join.plant.now c.in-Join.levels.number c.in-Join.stem.now c.in-Join.log.now refl)) c.join_file.ensures.write_fault c.join_file.ensures.begun
    (kept_joined c.in-Join.plant.now c.in-Join.levels.number c.in-Join.stem.now c.in-Join.log.now (g.F.Shelf.files c.args.files.now) (g.F.Shelf.files c.join_file.new.files) c.join_file.ensures.others) c.join_file.ensures.left c.join_file.ensures.kept.later c.join_file.ensures.kept.writes)

pub join_file-requires-clause-logs_readable : goal.join_file-requires-clause-logs_readable
join_file-requires-clause-logs_readable g c =
    let may = g.F.Shelf.may_read c.args.files.now in
    let is = c.in-Join.is in
    parts_allowed may c.in-Join.plant.now c.in-Join.stem.now c.in-Join.levels.number (rw is at c.requires.may.may_read)

pub join_file-requires-clause-apart : goal.join_file-requires-clause-apart
join_file-requires-clause-apart g c = c.requires.may.apart.joining c.in-Join.plant.now c.in-Join.levels.number c.in-Join.stem.now c.in-Join.log.now (ap meaning c.in-Join.is)
