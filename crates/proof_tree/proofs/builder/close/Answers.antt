-- A right part closes its split with the left part that has ended, and is else the left part itself.
use Rattle.std.proofs.Common.{◌∙◌, IfOk, subst}
use Rattle.proof_tree.specs.Built.{IsBuilt}
use Rattle.proof_tree.proofs.Building.{items-closed, items-left}
use Rattle.proof_tree.proofs.builder.close.Goals as goal

pub loop-split-preserved : goal.loop-split-preserved
loop-split-preserved g c =
    items-closed g.row.R.Denot g.row.R-Area.Denot c.loop-split.splits c.take_top.new.self c.in-Some.split c.in-Some-left.left c.loop-split.right c.in_ok-right-in-Some-left.right c.in-Some.ensures c.in-Some-left.is c.in_ok-right-in-Some-left.ensures
    ∙ c.loop-split.invariant

pub returns-in-None : goal.returns-in-None
returns-in-None g c =
    let same = items-left g.row.R.Denot g.row.R-Area.Denot c.loop-split.splits c.take_top.new.self c.in-Some.split c.loop-split.right c.in-Some.ensures c.in-None.is ∙ c.loop-split.invariant in
    subst (λ items. IfOk c.begin_part.result (λ built. IsBuilt items built)) same c.begin_part.ensures
