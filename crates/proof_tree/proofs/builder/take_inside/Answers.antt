-- An item of a node comes after those that are held: a cut and a found point stand in the node, an end ends it.
use Rattle.std.proofs.Common.{IfOk, subst}
use Rattle.proof_tree.specs.Built.{IsBuilt}
use Rattle.proof_tree.specs.Tree.{no_point, dual, one_point, pending, tree_of}
use Rattle.proof_tree.proofs.Building.{not-node, cut-next, found-next, leaf-next, split-next}
use Rattle.proof_tree.proofs.builder.take_inside.Goals as goal

pub unreachable-requires : goal.unreachable-requires
unreachable-requires g c = not-node g.row.R.Denot g.row.R-Area.Denot c.args.splits c.args.node c.args.item c.in-Node.is c.requires

pub returns-in_ok-push-in-Cut : goal.returns-in_ok-push-in-Cut
returns-in_ok-push-in-Cut g c =
    let same = cut-next g.row.R.Denot g.row.R-Area.Denot c.args.splits c.args.node c.args.item c.in-Cut.cut c.push.new.self c.in-Cut.is c.in_ok-push-in-Cut.ensures.ok c.requires in
    subst (λ items. IfOk c.go_on.result (λ built. IsBuilt items built)) same c.go_on.ensures

pub returns-in-Found : goal.returns-in-Found
returns-in-Found g c =
    let same = found-next g.row.R.Denot g.row.R-Area.Denot c.args.splits c.args.node c.args.item c.in-Found.found c.in-Found.is c.requires in
    subst (λ items. IfOk c.go_on-in-Found.result (λ built. IsBuilt items built)) same c.go_on-in-Found.ensures

pub returns-in-Empty : goal.returns-in-Empty
returns-in-Empty g c =
    let same = leaf-next g.row.R.Denot g.row.R-Area.Denot c.args.splits c.args.node c.args.item no_point (tree_of c.ended.result) c.in-Empty.is c.ended.ensures in
    subst (λ items. IfOk c.close.result (λ built. IsBuilt items built)) same c.close.ensures

pub returns-in-Dual : goal.returns-in-Dual
returns-in-Dual g c =
    let same = leaf-next g.row.R.Denot g.row.R-Area.Denot c.args.splits c.args.node c.args.item (dual c.in-Dual.cert) (tree_of c.ended-in-Dual.result) c.in-Dual.is c.ended-in-Dual.ensures in
    subst (λ items. IfOk c.close-in-Dual.result (λ built. IsBuilt items built)) same c.close-in-Dual.ensures

pub returns-in-Point : goal.returns-in-Point
returns-in-Point g c =
    let same = leaf-next g.row.R.Denot g.row.R-Area.Denot c.args.splits c.args.node c.args.item one_point (tree_of c.ended-in-Point.result) c.in-Point.is c.ended-in-Point.ensures in
    subst (λ items. IfOk c.close-in-Point.result (λ built. IsBuilt items built)) same c.close-in-Point.ensures

pub returns-in-Pending : goal.returns-in-Pending
returns-in-Pending g c =
    let same = leaf-next g.row.R.Denot g.row.R-Area.Denot c.args.splits c.args.node c.args.item (pending c.in-Pending.cert) (tree_of c.ended-in-Pending.result) c.in-Pending.is c.ended-in-Pending.ensures in
    subst (λ items. IfOk c.close-in-Pending.result (λ built. IsBuilt items built)) same c.close-in-Pending.ensures

pub returns-in-Split : goal.returns-in-Split
returns-in-Split g c =
    let same = split-next g.row.R.Denot g.row.R-Area.Denot c.args.splits c.args.node c.args.item c.in-Split.pick c.in-Split.cert c.in-Split.is in
    subst (λ items. IfOk c.begin_part.result (λ built. IsBuilt items built)) same c.begin_part.ensures
