use Rattle.fraction.proofs.Written.{IsWrittenAs-fraction_in}
use Rattle.fraction.proofs.fraction_of.Fraction.parse.Goals as goal

pub returns-clause-written : goal.returns-clause-written
returns-clause-written c = IsWrittenAs-fraction_in c.args.text.now c.read_fraction.result c.read_fraction.ensures
