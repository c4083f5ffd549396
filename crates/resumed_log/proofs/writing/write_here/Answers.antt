-- A node was read and written; other files stay, so the old log is read on.
use Rattle.std.proofs.Common.{map, refl}
use Rattle.std.proofs.lemmas.Result.{IfOk-weaker, on_ok_weaker}
use Rattle.row_relax.specs.View.{view_of}
use Rattle.log_nodes.proofs.Frames.{both-reads, both-then, both-writes}
use Rattle.resumed_log.specs.laws.Walks.{HasPassed}
use Rattle.resumed_log.proofs.OpenSplits.{passed-below}
use Rattle.resumed_log.proofs.Readers.{still-beside, walks-on}
use Rattle.resumed_log.proofs.writing.write_here.Goals as goal

pub write_below-requires-clause-may_write : goal.write_below-requires-clause-may_write
write_below-requires-clause-may_write g c = (still-beside c.in_ok-node.ensures.frame.readable c.in_ok-node.ensures.frame.writable refl c.requires.can.beside).may_write

pub returns-clause-walking : goal.returns-clause-walking
returns-clause-walking g c =
    on_ok_weaker c.write_below.result (λ can. walks-on c.write_below.ensures.frame.others c.requires.can.beside.apart can (record { reading = c.in_ok-node.ensures.reading; can = c.requires.can.walking.can })) c.write_below.ensures.can

pub returns-clause-passed : goal.returns-clause-passed
returns-clause-passed g c =
    let pair = c.args.walk.pair in
    let old = map view_of c.args.area.now in
    let mid = map view_of c.enter_node.new.area in
    let new' = map view_of c.write_below.new.area in
    IfOk-weaker c.write_below.result (HasPassed pair c.args.walk.depth mid new') (HasPassed pair c.args.walk.depth old new') (λ split. passed-below pair c.args.walk.depth old mid new' c.in_ok-node.ensures.below.keeps split) c.write_below.ensures.passed

pub returns-clause-frame : goal.returns-clause-frame
returns-clause-frame g c = both-then refl (both-reads c.in_ok-node.ensures.frame) (both-writes c.write_below.ensures.frame)

pub returns-in_err-node-clause-frame : goal.returns-in_err-node-clause-frame
returns-in_err-node-clause-frame g c = both-reads c.in_err-node.ensures.frame
