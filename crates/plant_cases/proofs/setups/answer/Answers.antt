-- The plant's program begins with its slots, and with setups it has no fewer slots and rows.
use Rattle.std.proofs.Common.{length, subst, arith}
use Rattle.std.specs.Prelude.{IfSome, Option}
use Rattle.setup_slots.specs.declared.several.SetUp.{SetUp}
use Rattle.setup_slots.specs.Several.{AreSetUp}
use Rattle.setup_slots.proofs.ManyUnits.{rows-grow, rows-several, slots-grow, slots-several}
use Rattle.setup_slots.proofs.Plans.{has_slots}
use Rattle.plant_cases.proofs.setups.answer.Goals as goal

pub set_up-requires-clause-slots : goal.set_up-requires-clause-slots
set_up-requires-clause-slots c = has_slots c.args.plant.now c.in_ok-program.program c.in_ok-program.ensures.made

pub put_program-requires-clause-slots : goal.put_program-requires-clause-slots
put_program-requires-clause-slots c =
    let plant = c.args.plant.now in
    let units = c.as_slice.result.now in
    let program = c.in_ok-program.program in
    let set = subst (λ (o : Option SetUp). IfSome o (λ s. AreSetUp plant units program s.program)) c.in-Some.is c.in_ok-set.ensures.made in
    omega (arith, slots-several plant units program c.in-Some.set.program set, slots-grow plant units (length program.root), c.len-slots.ensures)

pub put_program-requires-clause-rows : goal.put_program-requires-clause-rows
put_program-requires-clause-rows c =
    let plant = c.args.plant.now in
    let units = c.as_slice.result.now in
    let program = c.in_ok-program.program in
    let set = subst (λ (o : Option SetUp). IfSome o (λ s. AreSetUp plant units program s.program)) c.in-Some.is c.in_ok-set.ensures.made in
    omega (arith, rows-several plant units program c.in-Some.set.program set, rows-grow plant units (length program.rows), c.len-rows.ensures)
