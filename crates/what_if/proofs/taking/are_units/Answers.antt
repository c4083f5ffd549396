-- Units ascend, or there are none.
use Rattle.std.proofs.Common.{sym, ◌∙◌}
use Rattle.std.proofs.lemmas.Bool.{false≢true}
use Rattle.what_if.proofs.TakenHeads.{none-ascend}
use Rattle.what_if.proofs.taking.are_units.Goals as goal

pub returns-then-capped : goal.returns-then-capped
returns-then-capped c = (
  (λ yes. (c.are_ascending.ensures.0 yes, (λ below. absurd (false≢true (sym below ∙ c.if-capped.true))))),
  (λ has. c.are_ascending.ensures.1 has.0),
)

pub returns-else-capped : goal.returns-else-capped
returns-else-capped c = none-ascend c.args.capped c.args.units.now c.is_empty.result c.if-capped.false c.is_empty.ensures
