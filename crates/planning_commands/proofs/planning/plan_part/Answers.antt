use Rattle.std.proofs.Common.{◌∙◌, ℕ, Ok}
use Rattle.row_set.specs.Parts.{IsAdmitted}
use Rattle.plan_told.specs.Outcomes.{least_plan, whole_count}
use Rattle.plan_told.specs.Proofs.{HasProof}
use Rattle.command_words.specs.Words.{named_log}
use Rattle.answer_texts.proofs.Named.{named-IsAnswer}
use Rattle.planning_commands.specs.NamedLog.{told_log}
use Rattle.planning_commands.proofs.PlannedLemmas.{begun_if}
use Rattle.planning_commands.proofs.planning.plan_part.Goals as goal

pub reply_of-requires : goal.reply_of-requires
reply_of-requires g c =
    let plant = c.args.part.plant.now in
    let part = c.args.part.program in
    named-IsAnswer plant (IsAdmitted plant part) (least_plan plant part) (whole_count part) c.args.budget.boxes c.in_ok-outcome.outcome.boxes c.in_ok-outcome.outcome.answer
    c.requires.sound (λ plan is. is.feasible) c.in_ok-outcome.ensures.outcome.answer

pub returns-clause-answer : goal.returns-clause-answer
returns-clause-answer g c =
    let plant = c.args.part.plant.now in
    let part = c.args.part.program in
    begun_if {E = ℕ} plant part c.args.start.now c.args.since c.args.budget.boxes c.deref.result.now
    (HasProof plant part c.args.part.judged c.args.part.levels (told_log (named_log c.args.log) (g.F.Shelf.files c.outcome_of.new.files))) c.in_ok-outcome.outcome (Ok c.in_ok-reply_of.field-0)
    c.requires.sound c.requires.part c.requires.short c.args.budget.most c.in_ok-outcome.ensures.outcome (λ has. c.deref.ensures.value ∙ c.in_ok-point.ensures has) c.in_ok-outcome.ensures.begun c.in_ok-outcome.ensures.proof
    c.in_ok-reply_of.ensures.says c.in_ok-reply_of.ensures.money
