-- Each command's work comes to what its call promises.
use Rattle.std.proofs.Common.{refl}
use Rattle.command_words.specs.Words.{Replanning, ReplanLogging, Improving, named_log}
use Rattle.stn_top.proofs.FileLemmas.{kept_replan, kept_improve}
use Rattle.stn_top.proofs.DoneLemmas.{only_read, wrote}
use Rattle.stn_top.proofs.rooms.replanning_reply.Goals as goal

pub returns-in-Replan-clause-done : goal.returns-in-Replan-clause-done
returns-in-Replan-clause-done g c =
    rw c.in-Replan.is (only_read (Replanning c.in-Replan.plant.now c.in-Replan.plan.now c.in-Replan.period.number c.in-Replan.budget.boxes) (g.F.Shelf.files c.args.files.now) (g.F.Shelf.files c.plan_on_file.new.files) (g.F.Shelf.read_faults c.args.files.now) (g.F.Shelf.read_faults c.plan_on_file.new.files)
    (g.F.Shelf.write_faults c.args.files.now) (g.F.Shelf.write_faults c.plan_on_file.new.files) c.plan_on_file.result
    c.plan_on_file.ensures.answer c.plan_on_file.ensures.fault (λ is. c.plan_on_file.ensures.writing.named is refl) c.plan_on_file.ensures.left c.plan_on_file.ensures.kept.later (c.plan_on_file.ensures.writing.none refl))

pub returns-in-LogReplan-clause-done : goal.returns-in-LogReplan-clause-done
returns-in-LogReplan-clause-done g c =
    rw c.in-LogReplan.is (wrote (ReplanLogging c.in-LogReplan.plant.now c.in-LogReplan.plan.now c.in-LogReplan.period.number c.in-LogReplan.budget.boxes c.in-LogReplan.log.now) (g.F.Shelf.files c.args.files.now) (g.F.Shelf.files c.plan_on_file-in-LogReplan.new.files) (g.F.Shelf.read_faults c.args.files.now) (g.F.Shelf.read_faults c.plan_on_file-in-LogReplan.new.files)
    (g.F.Shelf.write_faults c.args.files.now) (g.F.Shelf.write_faults c.plan_on_file-in-LogReplan.new.files) c.plan_on_file-in-LogReplan.result
    c.plan_on_file-in-LogReplan.ensures.answer c.plan_on_file-in-LogReplan.ensures.refused c.plan_on_file-in-LogReplan.ensures.fault (λ is _. c.plan_on_file-in-LogReplan.ensures.unread is) c.plan_on_file-in-LogReplan.ensures.writing.fault c.plan_on_file-in-LogReplan.ensures.begun
    (kept_replan c.in-LogReplan.plant.now c.in-LogReplan.plan.now c.in-LogReplan.period.number c.in-LogReplan.budget.boxes c.in-LogReplan.log.now (g.F.Shelf.files c.args.files.now) (g.F.Shelf.files c.plan_on_file-in-LogReplan.new.files) c.plan_on_file-in-LogReplan.ensures.others) c.plan_on_file-in-LogReplan.ensures.left c.plan_on_file-in-LogReplan.ensures.kept.later c.plan_on_file-in-LogReplan.ensures.kept.writes)

pub returns-in-Improve-clause-done : goal.returns-in-Improve-clause-done
returns-in-Improve-clause-done g c =
    rw c.in-Improve.is (wrote (Improving c.in-Improve.plant.now c.in-Improve.plan.now c.in-Improve.budget.boxes (named_log c.in-Improve.log)) (g.F.Shelf.files c.args.files.now) (g.F.Shelf.files c.plan_on_file-in-Improve.new.files) (g.F.Shelf.read_faults c.args.files.now) (g.F.Shelf.read_faults c.plan_on_file-in-Improve.new.files)
    (g.F.Shelf.write_faults c.args.files.now) (g.F.Shelf.write_faults c.plan_on_file-in-Improve.new.files) c.plan_on_file-in-Improve.result
    c.plan_on_file-in-Improve.ensures.answer c.plan_on_file-in-Improve.ensures.refused c.plan_on_file-in-Improve.ensures.fault (λ is _. c.plan_on_file-in-Improve.ensures.unread is) c.plan_on_file-in-Improve.ensures.writing.fault (λ is. (c.plan_on_file-in-Improve.ensures.writing.named is, c.plan_on_file-in-Improve.ensures.begun is))
    (kept_improve c.in-Improve.plant.now c.in-Improve.plan.now c.in-Improve.budget.boxes (named_log c.in-Improve.log) (g.F.Shelf.files c.args.files.now) (g.F.Shelf.files c.plan_on_file-in-Improve.new.files) c.plan_on_file-in-Improve.ensures.others) c.plan_on_file-in-Improve.ensures.left c.plan_on_file-in-Improve.ensures.kept.later c.plan_on_file-in-Improve.ensures.kept.writes)
