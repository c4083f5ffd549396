-- The point of the area's first slots is the only one there, and it is tested.
use Rattle.std.proofs.Common.{◌≡◌, ◌∙◌, List, length, take, sym, ap}
use Rattle.row_kit.specs.declared.domain.Domain.{Domain}
use Rattle.row_kit.specs.Area.{present}
use Rattle.row_relax.specs.Settle.{are_single, cap_at, only_point}
use Rattle.row_relax.proofs.OnlyPoints.{settled_at, settled_bad, single_is}
use Rattle.row_relax.proofs.settling.settle.Goals as goal

pub returns-then-not-first_are_single : goal.returns-then-not-first_are_single
returns-then-not-first_are_single c =
    settled_bad c.args.program.now (take (length c.args.program.now.root) (present c.args.area.now))
    (ap are_single (sym c.first_slots-slots.ensures.first) ∙ sym (single_is c.first_are_single.result (take c.first_slots-slots.result (present c.args.area.now)) c.first_are_single.ensures) ∙ c.if-not-first_are_single.true)

pub returns-then-count-le-FEW_SLOTS : goal.returns-then-count-le-FEW_SLOTS
returns-then-count-le-FEW_SLOTS c =
    let first = c.first_slots-slots.ensures.first in
    settled_at c.args.program.now (take (length c.args.program.now.root) (present c.args.area.now)) c.cap_of.result
    (ap are_single (sym first) ∙ sym (single_is c.first_are_single.result (take c.first_slots-slots.result (present c.args.area.now)) c.first_are_single.ensures) ∙ c.if-not-first_are_single.false)
    (c.cap_of.ensures ∙ ap (λ (ds : List Domain). cap_at c.args.program.now (only_point ds)) first)

pub returns-else-count-le-FEW_SLOTS : goal.returns-else-count-le-FEW_SLOTS
returns-else-count-le-FEW_SLOTS c =
    let first = c.first_slots-slots.ensures.first in
    settled_at c.args.program.now (take (length c.args.program.now.root) (present c.args.area.now)) c.cap_of-else-count-le-FEW_SLOTS.result
    (ap are_single (sym first) ∙ sym (single_is c.first_are_single.result (take c.first_slots-slots.result (present c.args.area.now)) c.first_are_single.ensures) ∙ c.if-not-first_are_single.false)
    (c.cap_of-else-count-le-FEW_SLOTS.ensures ∙ ap (λ (ds : List Domain). cap_at c.args.program.now (only_point ds)) first)
