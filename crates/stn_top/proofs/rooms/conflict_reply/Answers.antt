-- Each command's work comes to what its call promises.
use Rattle.std.proofs.Common.{[], arith}
use Rattle.command_words.specs.Words.{Conflicting, ConflictLogging, CheckingConflict}
use Rattle.stn_top.proofs.FileLemmas.{kept_conflict}
use Rattle.stn_top.proofs.DoneLemmas.{only_read, wrote}
use Rattle.stn_top.proofs.rooms.conflict_reply.Goals as goal

pub returns-in-Conflict-clause-done : goal.returns-in-Conflict-clause-done
returns-in-Conflict-clause-done g c =
    rw c.in-Conflict.is (only_read (Conflicting c.in-Conflict.plant.now c.in-Conflict.budget.boxes) (g.F.Shelf.files c.args.files.now) (g.F.Shelf.files c.find_file.new.files) (g.F.Shelf.read_faults c.args.files.now) (g.F.Shelf.read_faults c.find_file.new.files)
    (g.F.Shelf.write_faults c.args.files.now) (g.F.Shelf.write_faults c.find_file.new.files) c.find_file.result
    c.find_file.ensures.answer c.find_file.ensures.fault c.find_file.ensures.unwritten c.find_file.ensures.kept.same c.find_file.ensures.kept.later c.find_file.ensures.kept.no_write)

pub returns-in-CheckConflict-clause-done : goal.returns-in-CheckConflict-clause-done
returns-in-CheckConflict-clause-done g c =
    rw c.in-CheckConflict.is (only_read (CheckingConflict c.in-CheckConflict.plant.now c.in-CheckConflict.stem.now) (g.F.Shelf.files c.args.files.now) (g.F.Shelf.files c.check_conflict_file.new.files) (g.F.Shelf.read_faults c.args.files.now) (g.F.Shelf.read_faults c.check_conflict_file.new.files)
    (g.F.Shelf.write_faults c.args.files.now) (g.F.Shelf.write_faults c.check_conflict_file.new.files) c.check_conflict_file.result
    c.check_conflict_file.ensures.answer c.check_conflict_file.ensures.fault c.check_conflict_file.ensures.unwritten c.check_conflict_file.ensures.kept.same c.check_conflict_file.ensures.kept.later c.check_conflict_file.ensures.kept.no_write)

pub returns-in-ConflictLogs-clause-done : goal.returns-in-ConflictLogs-clause-done
returns-in-ConflictLogs-clause-done g c =
    rw c.in-ConflictLogs.is (wrote (ConflictLogging c.in-ConflictLogs.plant.now c.in-ConflictLogs.budget.boxes c.in-ConflictLogs.stem.now) (g.F.Shelf.files c.args.files.now) (g.F.Shelf.files c.find_log_file.new.files) (g.F.Shelf.read_faults c.args.files.now) (g.F.Shelf.read_faults c.find_log_file.new.files)
    (g.F.Shelf.write_faults c.args.files.now) (g.F.Shelf.write_faults c.find_log_file.new.files) c.find_log_file.result
    c.find_log_file.ensures.answer c.find_log_file.ensures.refused c.find_log_file.ensures.fault (λ is _. c.find_log_file.ensures.unread is) c.find_log_file.ensures.write_fault c.find_log_file.ensures.begun
    (kept_conflict c.in-ConflictLogs.plant.now c.in-ConflictLogs.budget.boxes c.in-ConflictLogs.stem.now (g.F.Shelf.files c.args.files.now) (g.F.Shelf.files c.find_log_file.new.files) c.find_log_file.ensures.others) c.find_log_file.ensures.left c.find_log_file.ensures.kept.later c.find_log_file.ensures.kept.writes)

pub find_log_file-requires-clause-text_writable : goal.find_log_file-requires-clause-text_writable
find_log_file-requires-clause-text_writable g c = let is = c.in-ConflictLogs.is in let all = rw is at c.requires.may.may_write in all 0 [] (omega arith)

pub find_log_file-requires-clause-log_writable : goal.find_log_file-requires-clause-log_writable
find_log_file-requires-clause-log_writable g c = let is = c.in-ConflictLogs.is in let all = rw is at c.requires.may.may_write in all 1 [] (omega arith)

pub check_conflict_file-requires-clause-text_readable : goal.check_conflict_file-requires-clause-text_readable
check_conflict_file-requires-clause-text_readable g c = let is = c.in-CheckConflict.is in let all = rw is at c.requires.may.may_read in all 1 [] (omega arith)

pub check_conflict_file-requires-clause-log_readable : goal.check_conflict_file-requires-clause-log_readable
check_conflict_file-requires-clause-log_readable g c = let is = c.in-CheckConflict.is in let all = rw is at c.requires.may.may_read in all 2 [] (omega arith)
