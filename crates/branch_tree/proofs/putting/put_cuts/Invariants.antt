-- The cuts so far were put.
use Rattle.std.proofs.Common.{◌≤◌, map, take}
use Rattle.proof_tree.specs.declared.item.Item.TheVariants.{Cut as CutItem}
use Rattle.branch_tree.specs.laws.Handed.{Grows}
use Rattle.branch_tree.proofs.putting.put_cuts.Given as goal

abbrev pub invariant-loop-cut : goal.invariant-loop-cut
invariant-loop-cut g l = record {
  ready : g.T.NodeTaker.ready l.taker l.out;
  later : g.T.NodeTaker.faults l.initial.out ≤ g.T.NodeTaker.faults l.out;
  handed : Grows g.T.NodeTaker.took g.T.NodeTaker.took l.initial.taker l.initial.out (map CutItem (take l.cut-index l.cuts)) l.taker l.out;
}
