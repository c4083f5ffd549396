-- The header and what follows the head.
use Rattle.std.proofs.Common.{arith}
use Rattle.std.proofs.lemmas.Grind.{common_steps}
use Rattle.what_if.proofs.OldLogs.{behind_is}
use Rattle.what_if.proofs.headed.behind.Goals as goal

pub returns : goal.returns
returns c =
    behind_is c.args.version c.args.head c.args.bytes.now c.in_ok-rest.rest.items c.extend_from_slice.new.self.items c.requires.some (grind (arith, common_steps)) (grind (arith, common_steps))
