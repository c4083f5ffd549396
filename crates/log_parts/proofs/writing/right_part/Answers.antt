-- One level less is half of the parts.
use Rattle.std.proofs.Common.{arith}
use Rattle.log_parts.proofs.PartsCopied.{halves}
use Rattle.log_parts.proofs.writing.right_part.Goals as goal

pub returns-clause-left_within : goal.returns-clause-left_within
returns-clause-left_within c = let half = halves c.args.levels c.args.slot c.requires.slot in omega (arith, half, c.requires.part)

pub returns-clause-right_within : goal.returns-clause-right_within
returns-clause-right_within c = let half = halves c.args.levels c.args.slot c.requires.slot in omega (arith, half, c.requires.part)
