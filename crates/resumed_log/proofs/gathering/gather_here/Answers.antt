-- A node was read, and what it tells is kept.
use Rattle.std.proofs.Common.{map}
use Rattle.std.proofs.lemmas.Result.{IfOk-weaker, on_ok_weaker}
use Rattle.row_relax.specs.View.{view_of}
use Rattle.resumed_log.specs.laws.Walks.{HasPassed}
use Rattle.resumed_log.proofs.OpenSplits.{passed-below}
use Rattle.resumed_log.proofs.gathering.gather_here.Goals as goal

pub returns-clause-walking : goal.returns-clause-walking
returns-clause-walking g c = on_ok_weaker c.gather_below.result (λ can. record { reading = c.in_ok-node.ensures.reading; can = can }) c.gather_below.ensures.can

pub returns-clause-passed : goal.returns-clause-passed
returns-clause-passed g c =
    let pair = c.args.walk.pair in
    let old = map view_of c.args.area.now in
    let mid = map view_of c.enter_node.new.area in
    let new' = map view_of c.gather_below.new.area in
    IfOk-weaker c.gather_below.result (HasPassed pair c.args.walk.depth mid new') (HasPassed pair c.args.walk.depth old new') (λ split. passed-below pair c.args.walk.depth old mid new' c.in_ok-node.ensures.below.keeps split) c.gather_below.ensures.passed
