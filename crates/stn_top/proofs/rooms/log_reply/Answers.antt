-- Each command's work comes to what its call promises.
use Rattle.command_words.specs.Words.{Telling, CheckingReplan, Estimating}
use Rattle.stn_top.proofs.DoneLemmas.{only_read}
use Rattle.stn_top.proofs.rooms.log_reply.Goals as goal

pub returns-in-Tell-clause-done : goal.returns-in-Tell-clause-done
returns-in-Tell-clause-done g c =
    rw c.in-Tell.is (only_read (Telling c.in-Tell.usage c.in-Tell.plant.now c.in-Tell.log.now) (g.F.Shelf.files c.args.files.now) (g.F.Shelf.files c.tell_file.new.files) (g.F.Shelf.read_faults c.args.files.now) (g.F.Shelf.read_faults c.tell_file.new.files)
    (g.F.Shelf.write_faults c.args.files.now) (g.F.Shelf.write_faults c.tell_file.new.files) c.tell_file.result
    c.tell_file.ensures.answer c.tell_file.ensures.fault c.tell_file.ensures.unwritten c.tell_file.ensures.kept.same c.tell_file.ensures.kept.later c.tell_file.ensures.kept.no_write)

pub returns-in-CheckReplan-clause-done : goal.returns-in-CheckReplan-clause-done
returns-in-CheckReplan-clause-done g c =
    rw c.in-CheckReplan.is (only_read (CheckingReplan c.in-CheckReplan.plant.now c.in-CheckReplan.plan.now c.in-CheckReplan.period.number c.in-CheckReplan.log.now) (g.F.Shelf.files c.args.files.now) (g.F.Shelf.files c.check_replan_file.new.files) (g.F.Shelf.read_faults c.args.files.now) (g.F.Shelf.read_faults c.check_replan_file.new.files)
    (g.F.Shelf.write_faults c.args.files.now) (g.F.Shelf.write_faults c.check_replan_file.new.files) c.check_replan_file.result
    c.check_replan_file.ensures.answer c.check_replan_file.ensures.fault c.check_replan_file.ensures.unwritten c.check_replan_file.ensures.kept.same c.check_replan_file.ensures.kept.later c.check_replan_file.ensures.kept.no_write)

pub returns-in-Estimate-clause-done : goal.returns-in-Estimate-clause-done
returns-in-Estimate-clause-done g c =
    rw c.in-Estimate.is (only_read (Estimating c.in-Estimate.plant.now c.in-Estimate.log.now c.in-Estimate.state.now c.in-Estimate.steps.step c.in-Estimate.steps.count) (g.F.Shelf.files c.args.files.now) (g.F.Shelf.files c.estimate_file.new.files) (g.F.Shelf.read_faults c.args.files.now) (g.F.Shelf.read_faults c.estimate_file.new.files)
    (g.F.Shelf.write_faults c.args.files.now) (g.F.Shelf.write_faults c.estimate_file.new.files) c.estimate_file.result
    c.estimate_file.ensures.answer c.estimate_file.ensures.fault c.estimate_file.ensures.unwritten c.estimate_file.ensures.kept.same c.estimate_file.ensures.kept.later c.estimate_file.ensures.kept.no_write)
