-- A lower total is at most the other.
use Rattle.std.proofs.Common.{ℤ, ◌≤ℤ◌, ◌<ℤ◌, arith}
use Rattle.std.proofs.lemmas.Int.{ints}
use Rattle.row_kit.specs.Area.{present}
use Rattle.dual_bound.specs.Total.{total_of}
use Rattle.dual_climb.proofs.climbing.climb.Goals as goal

at_most : (a b : ℤ) → a <ℤ b → a ≤ℤ b
at_most a b h = omega (arith, ints)

pub returns-then-is_lower-clause-never : goal.returns-then-is_lower-clause-never
returns-then-is_lower-clause-never c = λ _.
    let total = total_of c.args.program.now (present c.args.area.now) in
    at_most (total c.in_ok-best.best) (total c.args.start.now) (c.is_lower.ensures c.if-is_lower.true)
