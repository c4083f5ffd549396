-- The old log is walked from its head on.
use Rattle.std.proofs.Common.{rules}
use Rattle.log_nodes.specs.laws.Seen.{seen}
use Rattle.resumed_log.specs.laws.Walks.{CanRewrite}
use Rattle.resumed_log.proofs.going_on.write_proof.Goals as goal

pub write_node-requires : goal.write_node-requires
write_node-requires g c =
    let can : CanRewrite g.F.Shelf c.args.files.now c.args.task.pair c.in_ok-reader.reader c.args.course.now.going c.args.course.now.out (seen c.in_ok-area.area) = record {
      beside = c.requires.beside;
      walking = record { reading = c.in_ok-reader.ensures (g.F.Shelf.files c.args.files.now) c.args.task.pair.log.now; can = c.requires.can };
      fits = c.in_ok-area.ensures.fits;
    } in
    search rules
