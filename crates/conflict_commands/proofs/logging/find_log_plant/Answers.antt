-- The log of the answer, and then its text.
use Rattle.std.proofs.Common.{◌∙◌}
use Rattle.std.proofs.lemmas.Result.{IfOk-weaker}
use Rattle.conflict_commands.proofs.Conflicts.{printable_log, left_log, left_text, found_log, pair_both}
use Rattle.conflict_commands.proofs.logging.find_log_plant.Goals as goal

pub put_answer-requires-clause-printable : goal.put_answer-requires-clause-printable
put_answer-requires-clause-printable g c =
    printable_log c.args.plant.now c.args.budget.boxes c.as_str.result.now (g.F.Shelf.files c.args.files.now) (g.F.Shelf.files c.conflict_to.new.files) c.in-Ok.said c.requires.sound c.in-Ok.ensures.log

pub returns-in-Ok-clause-answer : goal.returns-in-Ok-clause-answer
returns-in-Ok-clause-answer g c =
    let named = c.as_str.ensures.value ∙ c.in_ok-name.ensures in
    let log = rw named at c.in-Ok.ensures.log in
    IfOk-weaker c.put_answer.result _ _
    (λ reply put. found_log c.args.plant.now c.args.budget.boxes c.args.stem.now (g.F.Shelf.files c.args.files.now) (g.F.Shelf.files c.conflict_to.new.files) (g.F.Shelf.files c.put_answer.new.files) c.in-Ok.said reply log c.put_answer.ensures.others put)
    c.put_answer.ensures.put

pub returns-in-Ok-clause-left : goal.returns-in-Ok-clause-left
returns-in-Ok-clause-left g c =
    let named = c.as_str.ensures.value ∙ c.in_ok-name.ensures in
    let log = rw named at c.in-Ok.ensures.log in
    let before = rw named at c.conflict_to.ensures.others in
    left_text c.args.plant.now c.args.budget.boxes c.args.stem.now (g.F.Shelf.files c.args.files.now) (g.F.Shelf.files c.conflict_to.new.files) (g.F.Shelf.files c.put_answer.new.files) c.in-Ok.said log before c.put_answer.ensures.others c.put_answer.ensures.begun

pub returns-in-Ok-clause-others : goal.returns-in-Ok-clause-others
returns-in-Ok-clause-others g c =
    let named = c.as_str.ensures.value ∙ c.in_ok-name.ensures in
    let before = rw named at c.conflict_to.ensures.others in
    pair_both c.args.stem.now (g.F.Shelf.files c.args.files.now) (g.F.Shelf.files c.conflict_to.new.files) (g.F.Shelf.files c.put_answer.new.files) before c.put_answer.ensures.others

pub returns-in-Err-Failed-clause-left : goal.returns-in-Err-Failed-clause-left
returns-in-Err-Failed-clause-left g c =
    let named = c.as_str.ensures.value ∙ c.in_ok-name.ensures in
    let left = rw named at c.in-Err-Failed.ensures.err in
    let before = rw named at c.conflict_to.ensures.others in
    left_log c.args.plant.now c.args.budget.boxes c.args.stem.now (g.F.Shelf.files c.args.files.now) (g.F.Shelf.files c.conflict_to.new.files) left before

pub returns-clause-left : goal.returns-clause-left
returns-clause-left g c =
    let named = c.as_str.ensures.value ∙ c.in_ok-name.ensures in
    let left = rw named at c.in-Err-Memory.ensures.err in
    let before = rw named at c.conflict_to.ensures.others in
    left_log c.args.plant.now c.args.budget.boxes c.args.stem.now (g.F.Shelf.files c.args.files.now) (g.F.Shelf.files c.conflict_to.new.files) left before
