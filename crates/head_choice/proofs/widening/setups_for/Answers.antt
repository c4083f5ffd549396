-- The units that are chosen, whatever the list by which they are passed on.
use Rattle.std.proofs.Common.{ℕ, ◌<◌, List, length, sym, ap, ◌∙◌, subst}
use Rattle.setup_slots.specs.Several.{AreSetUp, choices_before}
use Rattle.head_choice.specs.Heading.{HasUnitRoom}
use Rattle.head_choice.proofs.widening.setups_for.Goals as goal

pub with_units-requires-clause-room : goal.with_units-requires-clause-room
with_units-requires-clause-room c = subst (λ (us : List ℕ). 0 < length us → HasUnitRoom c.args.plant.now c.args.between us) (sym c.as_slice.ensures) c.in_ok-units.ensures.room

pub returns-clause-made : goal.returns-clause-made
returns-clause-made c = subst (λ (us : List ℕ). AreSetUp c.args.plant.now us c.args.between c.in_ok-set.set.program) c.as_slice.ensures c.in_ok-set.ensures.made

pub returns-clause-choices : goal.returns-clause-choices
returns-clause-choices c = c.in_ok-set.ensures.choices ∙ ap (λ (us : List ℕ). choices_before us c.args.between) c.as_slice.ensures
