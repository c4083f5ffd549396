-- One unit more is set up, or there is no room for it.
use Rattle.std.proofs.Common.{get_or, refl, subst}
use Rattle.std.specs.Prelude.{◌↔◌, IfSome, IsSome, Option}
use Rattle.std.proofs.lemmas.Bool.{false≢true}
use Rattle.row_kit.specs.declared.program.Program.{Program}
use Rattle.setup_slots.specs.Larger.{HasRoom, IsWithSetups}
use Rattle.setup_slots.proofs.ManyUnits.{room-end, room-more, room-none, room-on, sets-all, sets-more}
use Rattle.setup_slots.proofs.several.with_all_setups.Goals as goal

pub loop-unit-init : goal.loop-unit-init
loop-unit-init c = record { sets = λ q is. is; room = (λ room. room, λ room. room); slots = c.requires.slots }

pub loop-unit-preserved : goal.loop-unit-preserved
loop-unit-preserved c =
    let inv = c.loop-unit.invariant in
    let plant = c.args.plant.now in
    let units = c.args.units.now in
    let i = c.loop-unit.unit-index in
    let one = subst (λ (o : Option Program). IfSome o (IsWithSetups plant (get_or units i 0) c.loop-unit.larger)) c.in-Some.is c.in_ok-next.ensures.made in
    record {
      sets = sets-more plant units i c.args.program c.loop-unit.larger c.in-Some.next c.loop-unit-test.true one inv.sets;
      room = room-more plant units i c.args.program c.loop-unit.larger c.in-Some.next c.loop-unit-test.true one inv.room;
      slots = room-on plant (get_or units i 0) c.loop-unit.larger c.in-Some.next inv.slots one;
    }

pub returns-in-None-clause-room : goal.returns-in-None-clause-room
returns-in-None-clause-room c =
    let inv = c.loop-unit.invariant in
    let plant = c.args.plant.now in
    let units = c.args.units.now in
    let i = c.loop-unit.unit-index in
    let both = subst (λ (o : Option Program). (IsSome o) ↔ (HasRoom plant (get_or units i 0) c.loop-unit.larger)) c.in-None.is c.in_ok-next.ensures.room in
    let none = room-none plant units i c.args.program c.loop-unit.larger c.loop-unit-test.true (λ has. false≢true (both.1 has)) inv.room in
    (λ some. absurd (false≢true some), λ room. absurd (none room))

pub returns-clause-room : goal.returns-clause-room
returns-clause-room c =
    let all = room-end c.args.plant.now c.args.units.now c.loop-unit.unit-index c.args.program c.loop-unit.larger c.loop-unit-test.false c.loop-unit.invariant.room in
    (λ some. all, λ room. refl)

pub returns-clause-made : goal.returns-clause-made
returns-clause-made c =
    sets-all c.args.plant.now c.args.units.now c.loop-unit.unit-index c.args.program c.loop-unit.larger c.loop-unit-test.false c.loop-unit.invariant.sets
