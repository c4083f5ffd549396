-- The parts of the line are the opposites of the parts.
use Rattle.std.proofs.Common.{◌≡◌, ◌-ℤ◌, neg_ℤ, pos, to_z, of_z, arith}
use Rattle.std.proofs.lemmas.Int.{ints}
use Rattle.dual_bound.proofs.LineSums.{line_minus}
use Rattle.dual_bound.proofs.line.Line.opposite.Goals as goal
use mir.Syntax.{w128}

pub returns-clause-value : goal.returns-clause-value
returns-clause-value c =
    let line = c.args.self.now in
    let ef : to_z w128 (of_z w128 (pos 0 -ℤ to_z w128 (of_z w128 line.fixed))) ≡ neg_ℤ line.fixed = omega (arith, ints, c.requires.fixed) in
    let ep : to_z w128 (of_z w128 (pos 0 -ℤ to_z w128 (of_z w128 line.per))) ≡ neg_ℤ line.per = omega (arith, ints, c.requires.per) in
    line_minus line _ ef ep
