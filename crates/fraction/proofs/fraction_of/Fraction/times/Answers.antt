use Rattle.std.proofs.Math.Nat.{mul-mod_left}
use Rattle.fraction.proofs.fraction_of.Fraction.times.Goals as goal

pub returns-else-whole-under-eq0-clause-exact : goal.returns-else-whole-under-eq0-clause-exact
returns-else-whole-under-eq0-clause-exact c = λ amount whole.
    c.if-whole-under-eq0.false (rw (c.from.ensures, c.from-2.ensures, c.from-under.ensures, ← whole) (mul-mod_left amount c.args.self.under))
