use Rattle.std.proofs.Common.{◌≡◌, arith}
use Rattle.std.specs.Prelude.{pos, ◌-ℤ◌, ◌≤ℤ◌}
use Rattle.std.proofs.lemmas.Int.{ints}
use Rattle.rolled_plant.specs.Receipts.{arriving_at}
use Rattle.rolled_plant.proofs.Gained.{arriving_is}
use Rattle.rolled_plant.proofs.arrivals.arriving_at.Goals as goal

pub overflow_cast-result : goal.overflow_cast-result
overflow_cast-result c =
    let is = arriving_is c.args.carried.now.plant.now c.args.carried.now.before.now c.args.carried.now.period c.args.state c.args.time c.requires.carried.earlier c.requires.late in
    let some : pos 0 ≤ℤ (c.gained_by.result -ℤ c.gained_before.result) = omega (arith, ints, is, c.gained_by.ensures.value, c.gained_before.ensures.value) in
    (grind (arith, ints), omega (arith, ints))

pub returns-clause-value : goal.returns-clause-value
returns-clause-value c =
    let is = arriving_is c.args.carried.now.plant.now c.args.carried.now.before.now c.args.carried.now.period c.args.state c.args.time c.requires.carried.earlier c.requires.late in
    let value : c.gained_by.result -ℤ c.gained_before.result ≡ pos (arriving_at c.args.carried.now.plant.now c.args.carried.now.before.now c.args.state c.args.time) = omega (arith, ints, is, c.gained_by.ensures.value, c.gained_before.ensures.value) in
    omega (arith, ints, value)
