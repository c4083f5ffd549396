-- Each command's work comes to what its call promises.
use Rattle.std.proofs.Common.{ap, refl}
use Rattle.std.specs.Option.{option_map}
use Rattle.command_words.specs.Words.{meaning, Resuming, Merging, share_numbers}
use Rattle.resume_commands.proofs.MergeLemmas.{merged_allowed, out_allowed}
use Rattle.stn_top.proofs.FileLemmas.{kept_resumed, kept_merged}
use Rattle.stn_top.proofs.DoneLemmas.{wrote}
use Rattle.stn_top.proofs.rooms.resume_reply.Goals as goal

pub returns-in-Resume-clause-done : goal.returns-in-Resume-clause-done
returns-in-Resume-clause-done g c =
    let share = option_map share_numbers c.in-Resume.share in
    rw c.in-Resume.is (wrote (Resuming c.in-Resume.plant.now c.in-Resume.log.now c.in-Resume.budget.boxes c.in-Resume.out.now share) (g.F.Shelf.files c.args.files.now) (g.F.Shelf.files c.resume_file.new.files) (g.F.Shelf.read_faults c.args.files.now) (g.F.Shelf.read_faults c.resume_file.new.files)
    (g.F.Shelf.write_faults c.args.files.now) (g.F.Shelf.write_faults c.resume_file.new.files) c.resume_file.result
    c.resume_file.ensures.answer c.resume_file.ensures.refused c.resume_file.ensures.fault (λ _ first. absurd (first.resumes_none c.in-Resume.plant.now c.in-Resume.log.now c.in-Resume.budget.boxes c.in-Resume.out.now share refl)) c.resume_file.ensures.write_fault c.resume_file.ensures.begun
    (kept_resumed c.in-Resume.plant.now c.in-Resume.log.now c.in-Resume.budget.boxes c.in-Resume.out.now share (g.F.Shelf.files c.args.files.now) (g.F.Shelf.files c.resume_file.new.files) c.resume_file.ensures.others) c.resume_file.ensures.left c.resume_file.ensures.kept.later c.resume_file.ensures.kept.writes)

pub resume_file-requires-clause-apart : goal.resume_file-requires-clause-apart
resume_file-requires-clause-apart g c = c.requires.may.apart.resuming c.in-Resume.plant.now c.in-Resume.log.now c.in-Resume.budget.boxes c.in-Resume.out.now (option_map share_numbers c.in-Resume.share) (ap meaning c.in-Resume.is)

pub returns-in-Merge-clause-done : goal.returns-in-Merge-clause-done
returns-in-Merge-clause-done g c =
    rw c.in-Merge.is (wrote (Merging c.in-Merge.plant.now c.in-Merge.stem.now c.in-Merge.count.number c.in-Merge.out.now) (g.F.Shelf.files c.args.files.now) (g.F.Shelf.files c.merge_files.new.files) (g.F.Shelf.read_faults c.args.files.now) (g.F.Shelf.read_faults c.merge_files.new.files)
    (g.F.Shelf.write_faults c.args.files.now) (g.F.Shelf.write_faults c.merge_files.new.files) c.merge_files.result
    c.merge_files.ensures.answer c.merge_files.ensures.refused c.merge_files.ensures.fault (λ _ first. absurd (first.merges_none c.in-Merge.plant.now c.in-Merge.stem.now c.in-Merge.count.number c.in-Merge.out.now refl)) c.merge_files.ensures.write_fault c.merge_files.ensures.begun
    (kept_merged c.in-Merge.plant.now c.in-Merge.stem.now c.in-Merge.count.number c.in-Merge.out.now (g.F.Shelf.files c.args.files.now) (g.F.Shelf.files c.merge_files.new.files) c.merge_files.ensures.others) c.merge_files.ensures.left c.merge_files.ensures.kept.later c.merge_files.ensures.kept.writes)

pub merge_files-requires-clause-apart : goal.merge_files-requires-clause-apart
merge_files-requires-clause-apart g c = c.requires.may.apart.merging c.in-Merge.plant.now c.in-Merge.stem.now c.in-Merge.count.number c.in-Merge.out.now (ap meaning c.in-Merge.is)

pub merge_files-requires-clause-logs_readable : goal.merge_files-requires-clause-logs_readable
merge_files-requires-clause-logs_readable g c =
    let may = g.F.Shelf.may_read c.args.files.now in
    let is = c.in-Merge.is in
    merged_allowed may c.in-Merge.plant.now c.in-Merge.stem.now c.in-Merge.count.number c.in-Merge.out.now (rw is at c.requires.may.may_read)

pub merge_files-requires-clause-out_readable : goal.merge_files-requires-clause-out_readable
merge_files-requires-clause-out_readable g c =
    let may = g.F.Shelf.may_read c.args.files.now in
    let is = c.in-Merge.is in
    out_allowed may c.in-Merge.plant.now c.in-Merge.stem.now c.in-Merge.count.number c.in-Merge.out.now (rw is at c.requires.may.may_read)
