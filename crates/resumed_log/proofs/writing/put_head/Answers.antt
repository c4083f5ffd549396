-- The node, and then one cut after another.
use Rattle.std.proofs.Common.{◌∙◌}
use Rattle.log_nodes.proofs.Frames.{writes-then}
use Rattle.resumed_log.proofs.writing.put_head.Goals as goal

pub loop-cut-init : goal.loop-cut-init
loop-cut-init g c = record { named = c.in_ok-put.ensures.named; frame = c.in_ok-put.ensures.frame }

pub loop-cut-preserved : goal.loop-cut-preserved
loop-cut-preserved g c =
    let inv = c.loop-cut.invariant in
    let put = c.in_ok-put-2.ensures in
    record { named = put.named ∙ inv.named; frame = writes-then inv.named inv.frame put.frame }

pub returns-in_err-put-2-clause-frame : goal.returns-in_err-put-2-clause-frame
returns-in_err-put-2-clause-frame g c =
    let inv = c.loop-cut.invariant in
    writes-then inv.named inv.frame c.in_err-put-2.ensures.frame
