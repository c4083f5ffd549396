-- The node and its cuts, put one after another.
use Rattle.std.proofs.Common.{[], ◌∷◌, map, subst}
use Rattle.std.proofs.lemmas.Result.{on_err_weaker, on_ok_weaker}
use Rattle.proof_tree.specs.declared.item.Item.TheVariants.{Node as NodeItem, Cut as CutItem}
use Rattle.branch_tree.specs.laws.Grounds.{rows_of}
use Rattle.branch_tree.specs.laws.Handed.{Grows}
use Rattle.branch_tree.specs.laws.Stops.{Stopped}
use Rattle.branch_tree.proofs.Growing.{Grows-more}
use Rattle.branch_tree.proofs.Stopping.{at_err, head_at_node, head_before_cuts, head_in_cuts}
use Rattle.branch_tree.proofs.putting.open_box.Goals as goal

pub returns-in_err-put-clause-err : goal.returns-in_err-put-clause-err
returns-in_err-put-clause-err g c = at_err _ _ (head_at_node g.T.NodeTaker.took g.T.NodeTaker.broke (rows_of c.args.ground.now) c.args.ground.now.floors _ _ _ _ c.in_err-put.ensures.broke)

pub returns-in_err-cuts-clause-err : goal.returns-in_err-cuts-clause-err
returns-in_err-cuts-clause-err g c = at_err _ _ (head_before_cuts g.T.NodeTaker.took g.T.NodeTaker.broke (rows_of c.args.ground.now) c.args.ground.now.floors _ _ _ _ c.in_ok-put.ensures.took)

pub returns-clause-handed : goal.returns-clause-handed
returns-clause-handed g c =
    on_ok_weaker c.put_cuts.result
    (λ handed. record {
      cuts = c.in_ok-cuts.cuts.items;
      moved = c.in_ok-cuts.ensures.moved;
      fit = c.in_ok-cuts.ensures.fit;
      handed = Grows-more g.T.NodeTaker.took g.T.NodeTaker.took c.args.taker.now c.args.out.now (NodeItem ∷ []) c.put.new.self c.put.new.out (map CutItem c.in_ok-cuts.cuts.items) c.put_cuts.new.taker c.put_cuts.new.out
          c.in_ok-put.ensures.took
          (subst (λ cuts. Grows g.T.NodeTaker.took g.T.NodeTaker.took c.put.new.self c.put.new.out (map CutItem cuts) c.put_cuts.new.taker c.put_cuts.new.out) c.as_slice.ensures.value handed);
    })
    c.put_cuts.ensures.handed

pub returns-clause-err : goal.returns-clause-err
returns-clause-err g c =
    on_err_weaker c.put_cuts.result
    (λ stopped. head_in_cuts g.T.NodeTaker.took g.T.NodeTaker.broke (rows_of c.args.ground.now) c.args.ground.now.floors c.in_ok-cuts.cuts.items _ _ _ _ _ _ c.in_ok-cuts.ensures.fit c.in_ok-put.ensures.took
    (subst (λ cuts. Stopped g.T.NodeTaker.took g.T.NodeTaker.broke c.put.new.self c.put.new.out (map CutItem cuts) c.put_cuts.new.taker c.put_cuts.new.out) c.as_slice.ensures.value stopped))
    c.put_cuts.ensures.err
