-- The head is taken, or the cap is plain.
use Rattle.std.proofs.Common.{sym, ◌∙◌}
use Rattle.std.proofs.lemmas.Bool.{false≢true}
use Rattle.proof_tree.specs.Tree.{tree_of}
use Rattle.what_if.proofs.Capping.{loose_caps, loose_with, plain_caps, plain_without}
use Rattle.what_if.proofs.estimating.cap_over.Goals as goal

pub returns-in_ok-rows-clause-is : goal.returns-in_ok-rows-clause-is
returns-in_ok-rows-clause-is c =
    loose_with c.args.plant.now c.args.program c.args.ranges.now c.args.head.now c.in_ok-rows.rows (tree_of c.args.proof.now) c.root_cap.result c.requires.sound c.requires.made c.requires.means c.requires.root
    (c.in_ok-taken.ensures.0 c.if-taken.true) c.in_ok-rows.ensures c.root_cap.ensures

pub returns-in_ok-rows-clause-caps : goal.returns-in_ok-rows-clause-caps
returns-in_ok-rows-clause-caps c =
    loose_caps c.args.plant.now c.args.program c.args.ranges.now c.args.head.now c.in_ok-rows.rows (tree_of c.args.proof.now) c.root_cap.result c.requires.sound c.requires.made c.requires.means c.requires.root
    (c.in_ok-taken.ensures.0 c.if-taken.true) c.in_ok-rows.ensures c.root_cap.ensures

pub returns-else-taken-clause-is : goal.returns-else-taken-clause-is
returns-else-taken-clause-is c =
    plain_without c.args.plant.now c.args.program c.args.ranges.now c.args.head.now (tree_of c.args.proof.now) c.plain_cap.result c.requires.made (λ is. false≢true (sym c.if-taken.false ∙ c.in_ok-taken.ensures.1 is)) c.plain_cap.ensures

pub returns-else-taken-clause-caps : goal.returns-else-taken-clause-caps
returns-else-taken-clause-caps c = plain_caps c.args.plant.now c.args.program c.plain_cap.result c.requires.means c.plain_cap.ensures
