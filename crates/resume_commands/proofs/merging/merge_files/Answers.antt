-- The plant is read, or refused; then the logs are merged.
use Rattle.std.proofs.Common.{◌≡◌, [], ◌∷◌, ◌++◌, inl, inr}
use Rattle.std.proofs.lemmas.Result.{err_from_is_err_and}
use Rattle.command_replies.specs.declared.reply.Reply.{Reply}
use Rattle.command_replies.specs.Answers.{IsPlantAnswer, IsUnwritten}
use Rattle.command_replies.proofs.AnswerLemmas.{of_refusal, plant_answer, plant_refused, replied, replied_if}
use Rattle.command_replies.proofs.FileLemmas.{stay_same}
use Rattle.resume_commands.specs.Merging.{MergeAnswered, merged_names}
use Rattle.resume_commands.proofs.MergeLemmas.{merge-status}
use Rattle.resume_commands.proofs.merging.merge_files.Goals as goal

pub returns-in_err-plant-clause-answer : goal.returns-in_err-plant-clause-answer
returns-in_err-plant-clause-answer g c =
    let old = g.F.Shelf.files c.args.files.now in
    let new = g.F.Shelf.files c.plant_in.new.files in
    let p = err_from_is_err_and c.from_residual.result c.from_residual.ensures.1 in
    rw (p.1, p.2) (plant_refused old new c.args.name.now (merged_names c.args.stem.now c.args.count.number ++ c.args.out.now ∷ []) (λ _. MergeAnswered old new c.args.count.number c.args.stem.now c.args.out.now) c.in_err-plant.field-0.0 c.in_err-plant.ensures.same c.in_err-plant.ensures.refused)

pub returns-in_err-plant-clause-refused : goal.returns-in_err-plant-clause-refused
returns-in_err-plant-clause-refused g c =
    let unwritten : Reply → Type 0 = λ reply. IsUnwritten reply.status → g.F.Shelf.files c.plant_in.new.files ≡ g.F.Shelf.files c.args.files.now in
    replied c.from_residual.result unwritten (λ reply _. c.in_err-plant.ensures.same)

pub returns-in_err-plant-clause-left : goal.returns-in_err-plant-clause-left
returns-in_err-plant-clause-left g c = inl c.in_err-plant.ensures.same

pub returns-in_err-plant-clause-others : goal.returns-in_err-plant-clause-others
returns-in_err-plant-clause-others g c = stay_same c.args.out.now (g.F.Shelf.files c.args.files.now) (g.F.Shelf.files c.plant_in.new.files) c.in_err-plant.ensures.same

pub returns-clause-answer : goal.returns-clause-answer
returns-clause-answer g c =
    let old = g.F.Shelf.files c.args.files.now in
    let new = g.F.Shelf.files c.merge_logs.new.files in
    let count = c.args.count.number in
    let stem = c.args.stem.now in
    let out = c.args.out.now in
    let plant = c.in_ok-plant.plant in
    let same = c.in_ok-plant.ensures.same in
    replied_if c.merge_logs.result (λ reply. MergeAnswered old new count stem out plant reply.status reply.text.items) (λ reply. IsPlantAnswer old new c.args.name.now (merged_names stem count ++ out ∷ []) (λ _. MergeAnswered old new count stem out) reply.status reply.text.items)
    (λ reply is. plant_answer old new c.args.name.now (merged_names stem count ++ out ∷ []) (λ _. MergeAnswered old new count stem out) plant c.in_ok-plant.ensures.read reply.status reply.text.items is
    (λ refused. absurd (merge-status is.said reply.status is.status_is (of_refusal reply.status refused))))
    (rw same at c.merge_logs.ensures.answer) c.merge_logs.ensures.none

pub returns-clause-refused : goal.returns-clause-refused
returns-clause-refused g c =
    let old = g.F.Shelf.files c.plant_in.new.files in
    let new = g.F.Shelf.files c.merge_logs.new.files in
    replied_if c.merge_logs.result (λ reply. MergeAnswered old new c.args.count.number c.args.stem.now c.args.out.now c.in_ok-plant.plant reply.status reply.text.items) (λ reply. IsUnwritten reply.status → new ≡ g.F.Shelf.files c.args.files.now)
    (λ reply is none. absurd (merge-status is.said reply.status is.status_is none)) c.merge_logs.ensures.answer c.merge_logs.ensures.none

pub returns-clause-begun : goal.returns-clause-begun
returns-clause-begun g c = λ fault.
    let same = c.in_ok-plant.ensures.same in
    (c.in_ok-plant.plant, (c.in_ok-plant.ensures.read, rw same at c.merge_logs.ensures.begun fault))

pub returns-clause-left : goal.returns-clause-left
returns-clause-left g c =
    let same = c.in_ok-plant.ensures.same in
    inr (record { plant = c.in_ok-plant.plant; read = c.in_ok-plant.ensures.read; holds = rw same at c.merge_logs.ensures.left })

pub returns-clause-others : goal.returns-clause-others
returns-clause-others g c = let same = c.in_ok-plant.ensures.same in rw same at c.merge_logs.ensures.others
