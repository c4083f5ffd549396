use Rattle.stn_edge.specs.Files.{file_of}
use Rattle.demo_commands.proofs.DemoLemmas.{checked_line}
use Rattle.demo_commands.proofs.demo.check_line.Goals as goal

pub returns-in_ok-reply-in-Ok : goal.returns-in_ok-reply-in-Ok
returns-in_ok-reply-in-Ok c =
    checked_line c.args.plant.now (file_of c.args.files.now.files c.args.name.now) c.in-Ok.verdict c.in_ok-reply-in-Ok.reply.text.items c.in-Ok.ensures.checked c.in_ok-reply-in-Ok.ensures.1
