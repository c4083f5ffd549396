-- The first line of version 2, or a head.
use Rattle.std.proofs.Common.{arith}
use Rattle.std.proofs.lemmas.Bool.Decides.{nat_tests}
use Rattle.log_parts.proofs.Writes.{front_two}
use Rattle.log_parts.proofs.writing.put_front.Goals as goal

pub returns-in_ok-put_line : goal.returns-in_ok-put_line
returns-in_ok-put_line c =
    front_two c.args.version c.args.declared.now c.args.into.now.items c.put_line.new.into.items (grind (arith, nat_tests, c.if-version-eq2.true)) c.in_ok-put_line.ensures.ok
