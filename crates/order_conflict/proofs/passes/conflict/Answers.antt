-- What planning the whole plant says, and what the passes leave.
use Rattle.std.proofs.Common.{◌≡◌, None, Some, ap, sym, ◌∙◌}
use Rattle.order_conflict.specs.Conflict.{planned}
use Rattle.order_conflict.proofs.Passing.{planned_is, not_planned}
use Rattle.order_conflict.proofs.passes.conflict.Goals as goal

pub narrowed-requires-clause-none : goal.narrowed-requires-clause-none
narrowed-requires-clause-none g c =
    let outcome = c.in_ok-answer.field-0 in
    not_planned c.args.plant.now c.args.budget outcome.boxes outcome.answer c.in_ok-answer.ensures.outcome (sym c.in-None.is ∙ c.planned.ensures)

pub returns-in-Some : goal.returns-in-Some
returns-in-Some g c =
    let outcome = c.in_ok-answer.field-0 in
    planned_is c.args.plant.now c.args.budget outcome.boxes outcome.answer c.in-Some.said c.in_ok-answer.ensures.outcome (sym c.in-Some.is ∙ c.planned.ensures)

pub returns-in_ok-marks-in-None : goal.returns-in_ok-marks-in-None
returns-in_ok-marks-in-None g c =
    let outcome = c.in_ok-answer.field-0 in
    (not_planned c.args.plant.now c.args.budget outcome.boxes outcome.answer c.in_ok-answer.ensures.outcome (sym c.in-None.is ∙ c.planned.ensures), c.in_ok-marks-in-None.ensures)
