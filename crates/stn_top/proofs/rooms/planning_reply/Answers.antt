-- Each command's work comes to what its call promises.
use Rattle.std.proofs.Common.{refl}
use Rattle.command_words.specs.Words.{Solving, Logging, PartSolving}
use Rattle.stn_top.proofs.FileLemmas.{kept_log, kept_part}
use Rattle.stn_top.proofs.DoneLemmas.{only_read, wrote}
use Rattle.stn_top.proofs.rooms.planning_reply.Goals as goal

pub returns-in-Solve-clause-done : goal.returns-in-Solve-clause-done
returns-in-Solve-clause-done g c =
    rw c.in-Solve.is (only_read (Solving c.in-Solve.plant.now c.in-Solve.budget.boxes) (g.F.Shelf.files c.args.files.now) (g.F.Shelf.files c.solve_file.new.files) (g.F.Shelf.read_faults c.args.files.now) (g.F.Shelf.read_faults c.solve_file.new.files)
    (g.F.Shelf.write_faults c.args.files.now) (g.F.Shelf.write_faults c.solve_file.new.files) c.solve_file.result
    c.solve_file.ensures.answer c.solve_file.ensures.fault (λ is. c.solve_file.ensures.writing.named is refl) c.solve_file.ensures.left c.solve_file.ensures.kept.later (c.solve_file.ensures.writing.none refl))

pub returns-in-Log-clause-done : goal.returns-in-Log-clause-done
returns-in-Log-clause-done g c =
    rw c.in-Log.is (wrote (Logging c.in-Log.plant.now c.in-Log.budget.boxes c.in-Log.log.now) (g.F.Shelf.files c.args.files.now) (g.F.Shelf.files c.solve_file-in-Log.new.files) (g.F.Shelf.read_faults c.args.files.now) (g.F.Shelf.read_faults c.solve_file-in-Log.new.files)
    (g.F.Shelf.write_faults c.args.files.now) (g.F.Shelf.write_faults c.solve_file-in-Log.new.files) c.solve_file-in-Log.result
    c.solve_file-in-Log.ensures.answer c.solve_file-in-Log.ensures.refused c.solve_file-in-Log.ensures.fault (λ is _. c.solve_file-in-Log.ensures.unread is) c.solve_file-in-Log.ensures.writing.fault c.solve_file-in-Log.ensures.begun
    (kept_log c.in-Log.plant.now c.in-Log.budget.boxes c.in-Log.log.now (g.F.Shelf.files c.args.files.now) (g.F.Shelf.files c.solve_file-in-Log.new.files) c.solve_file-in-Log.ensures.others) c.solve_file-in-Log.ensures.left c.solve_file-in-Log.ensures.kept.later c.solve_file-in-Log.ensures.kept.writes)

pub returns-in-SolvePart-clause-done : goal.returns-in-SolvePart-clause-done
returns-in-SolvePart-clause-done g c =
    rw c.in-SolvePart.is (wrote (PartSolving c.in-SolvePart.plant.now c.in-SolvePart.part.levels.number c.in-SolvePart.part.number c.in-SolvePart.budget.boxes c.in-SolvePart.log.now) (g.F.Shelf.files c.args.files.now) (g.F.Shelf.files c.solve_part_file.new.files) (g.F.Shelf.read_faults c.args.files.now) (g.F.Shelf.read_faults c.solve_part_file.new.files)
    (g.F.Shelf.write_faults c.args.files.now) (g.F.Shelf.write_faults c.solve_part_file.new.files) c.solve_part_file.result
    c.solve_part_file.ensures.answer c.solve_part_file.ensures.refused c.solve_part_file.ensures.fault (λ is _. c.solve_part_file.ensures.unread is) c.solve_part_file.ensures.write_fault c.solve_part_file.ensures.begun
    (kept_part c.in-SolvePart.plant.now c.in-SolvePart.part.levels.number c.in-SolvePart.part.number c.in-SolvePart.budget.boxes c.in-SolvePart.log.now (g.F.Shelf.files c.args.files.now) (g.F.Shelf.files c.solve_part_file.new.files) c.solve_part_file.ensures.others) c.solve_part_file.ensures.left c.solve_part_file.ensures.kept.later c.solve_part_file.ensures.kept.writes)
