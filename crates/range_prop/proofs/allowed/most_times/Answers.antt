-- A multiple is at most the number where the factor is at most the quotient.
use Rattle.std.proofs.Common.{◌≡◌, ◌<◌, pos, to_z, of_z, unsigned_abs, arith}
use Rattle.std.proofs.lemmas.Int.{ints}
use Rattle.range_prop.proofs.Multiples.{at_most_quotient}
use Rattle.range_prop.proofs.allowed.most_times.Goals as goal
use mir.Syntax.{w128}

pub returns-else-most-ge255 : goal.returns-else-most-ge255
returns-else-most-ge255 c = λ v low high.
    let some : 0 < c.args.per = omega arith in
    let is : c.args.left ≡ pos (unsigned_abs (to_z w128 (of_z w128 c.args.left))) = grind (arith, ints) in
    at_most_quotient c.args.per v (unsigned_abs (to_z w128 (of_z w128 c.args.left))) c.args.left some is
