use Rattle.std.proofs.Common.{arith}
use Rattle.demo_commands.proofs.DemoLemmas.{read-again}
use Rattle.demo_commands.proofs.demo.read_made.Goals as goal

pub returns-in-Ok-clause-made : goal.returns-in-Ok-clause-made
returns-in-Ok-clause-made c =
    read-again c.args.seed c.in_ok-made.made c.in-Ok.plant c.new-text.result.items c.put_plant.new.into.items c.as_slice.result.now c.in_ok-made.ensures.made c.in_ok-put_plant.ensures.ok c.new-text.ensures.items
    c.as_slice.ensures.value (omega (arith, c.if-len-gt-MOST_BYTES.false, c.len.ensures)) c.in-Ok.ensures.reads
