use Rattle.std.proofs.Common.{◌∙◌, refl}
use Rattle.answer_texts.proofs.TextLemmas as lemmas
use Rattle.answer_texts.proofs.planning.answered.Goals as goal
use Rattle.answer_texts.proofs.planning.answered.Goals.{in-Some+in_ok-text-in-Some, in-None+in_ok-text-in-None}

pub returns-in-Optimal : goal.returns-in-Optimal
returns-in-Optimal c =
    let lines = c.as_str-lines.ensures.value ∙ c.in_ok-counts.ensures in
    rw c.in-Optimal.is (refl, (c.in_ok-text-in-Optimal.ensures ∙ lemmas.optimal_text c.args.plant.now c.args.boxes c.args.changed c.as_str-lines.result.now lines c.in-Optimal.plan c.in-Optimal.profit))

pub returns-in-Infeasible : goal.returns-in-Infeasible
returns-in-Infeasible c =
    let lines = c.as_str-lines.ensures.value ∙ c.in_ok-counts.ensures in
    rw c.in-Infeasible.is (refl, (c.in_ok-text-in-Infeasible.ensures ∙ lemmas.infeasible_text c.args.plant.now c.args.boxes c.args.changed c.as_str-lines.result.now lines))

pub returns : goal.returns
returns c =
    let lines = c.as_str-lines.ensures.value ∙ c.in_ok-counts.ensures in
    let boxes = c.args.boxes in
    elim c.match-plan.branch [
      | in-Some+in_ok-text-in-Some w ↦ rw (c.in-BudgetSpent.is, w.in-Some.is, w.text-is) (refl, (w.in_ok-text-in-Some.ensures ∙ lemmas.spent_text c.args.plant.now boxes c.args.changed c.as_str-lines.result.now lines w.in-Some.plan c.in-BudgetSpent.profit c.in-BudgetSpent.cap))
      | in-None+in_ok-text-in-None w ↦ rw (c.in-BudgetSpent.is, w.in-None.is, w.text-is) (refl, (w.in_ok-text-in-None.ensures ∙ lemmas.unsettled_text c.args.plant.now boxes c.args.changed c.as_str-lines.result.now lines c.in-BudgetSpent.profit c.in-BudgetSpent.cap))
    ]
