-- Each command's work comes to what its call promises.
use Rattle.command_words.specs.Words.{Seeking, Tracing, Auditing}
use Rattle.horizon_commands.proofs.Horizons.{logs_allowed, all_logs_allowed}
use Rattle.stn_top.proofs.FileLemmas.{kept_logs}
use Rattle.stn_top.proofs.DoneLemmas.{only_read, wrote}
use Rattle.stn_top.proofs.rooms.horizon_reply.Goals as goal

pub returns-in-Least-clause-done : goal.returns-in-Least-clause-done
returns-in-Least-clause-done g c =
    rw c.in-Least.is (only_read (Seeking c.in-Least.plant.now c.in-Least.budget.boxes) (g.F.Shelf.files c.args.files.now) (g.F.Shelf.files c.seek_file.new.files) (g.F.Shelf.read_faults c.args.files.now) (g.F.Shelf.read_faults c.seek_file.new.files)
    (g.F.Shelf.write_faults c.args.files.now) (g.F.Shelf.write_faults c.seek_file.new.files) c.seek_file.result
    c.seek_file.ensures.answer c.seek_file.ensures.fault c.seek_file.ensures.unwritten c.seek_file.ensures.kept.same c.seek_file.ensures.kept.later c.seek_file.ensures.kept.no_write)

pub returns-in-CheckLeast-clause-done : goal.returns-in-CheckLeast-clause-done
returns-in-CheckLeast-clause-done g c =
    rw c.in-CheckLeast.is (only_read (Auditing c.in-CheckLeast.plant.now c.in-CheckLeast.horizon c.in-CheckLeast.stem.now) (g.F.Shelf.files c.args.files.now) (g.F.Shelf.files c.audit_file.new.files) (g.F.Shelf.read_faults c.args.files.now) (g.F.Shelf.read_faults c.audit_file.new.files)
    (g.F.Shelf.write_faults c.args.files.now) (g.F.Shelf.write_faults c.audit_file.new.files) c.audit_file.result
    c.audit_file.ensures.answer c.audit_file.ensures.fault c.audit_file.ensures.unwritten c.audit_file.ensures.kept.same c.audit_file.ensures.kept.later c.audit_file.ensures.kept.no_write)

pub returns-in-LeastLogs-clause-done : goal.returns-in-LeastLogs-clause-done
returns-in-LeastLogs-clause-done g c =
    rw c.in-LeastLogs.is (wrote (Tracing c.in-LeastLogs.plant.now c.in-LeastLogs.budget.boxes c.in-LeastLogs.stem.now) (g.F.Shelf.files c.args.files.now) (g.F.Shelf.files c.trace_file.new.files) (g.F.Shelf.read_faults c.args.files.now) (g.F.Shelf.read_faults c.trace_file.new.files)
    (g.F.Shelf.write_faults c.args.files.now) (g.F.Shelf.write_faults c.trace_file.new.files) c.trace_file.result
    c.trace_file.ensures.answer c.trace_file.ensures.refused c.trace_file.ensures.fault (λ is _. c.trace_file.ensures.unread is) c.trace_file.ensures.write_fault c.trace_file.ensures.begun
    (kept_logs c.in-LeastLogs.plant.now c.in-LeastLogs.budget.boxes c.in-LeastLogs.stem.now (g.F.Shelf.files c.args.files.now) (g.F.Shelf.files c.trace_file.new.files) c.trace_file.ensures.others) c.trace_file.ensures.left c.trace_file.ensures.kept.later c.trace_file.ensures.kept.writes)

pub trace_file-requires-clause-logs_writable : goal.trace_file-requires-clause-logs_writable
trace_file-requires-clause-logs_writable g c =
    let may = g.F.Shelf.may_write c.args.files.now in
    let is = c.in-LeastLogs.is in
    all_logs_allowed may c.in-LeastLogs.stem.now 337 (rw is at c.requires.may.may_write)

pub audit_file-requires-clause-logs_readable : goal.audit_file-requires-clause-logs_readable
audit_file-requires-clause-logs_readable g c =
    let may = g.F.Shelf.may_read c.args.files.now in
    let is = c.in-CheckLeast.is in
    logs_allowed may c.in-CheckLeast.plant.now c.in-CheckLeast.stem.now c.in-CheckLeast.horizon (rw is at c.requires.may.may_read)
