use Rattle.std.proofs.Common.{◌≡◌, ℕ, arith, subst}
use Rattle.std.proofs.Math.ListN.{length-set}
use Rattle.plan_sim.specs.Moves.{cell}
use Rattle.plan_violations.specs.Meeting.{put_in}
use Rattle.plan_violations.proofs.Meeting.{put_more, put_none}
use Rattle.plan_violations.proofs.busy.set_row.Goals as goal

pub returns-then-to-from-clause-put : goal.returns-then-to-from-clause-put
returns-then-to-from-clause-put c = λ r k h. put_none c.args.cells.now c.args.width c.args.row c.args.from c.args.to c.args.value (omega arith) r k

pub loop-column-init : goal.loop-column-init
loop-column-init c = record {
  size = omega arith;
  put = λ r k h. put_none c.args.cells.now c.args.width c.args.row c.args.from c.args.from c.args.value (omega arith) r k;
}

pub loop-column-preserved : goal.loop-column-preserved
loop-column-preserved c = record {
  size = omega (arith, length-set {A = ℕ});
  put = put_more c.args.cells.now c.loop-column.cells c.args.width c.args.row c.args.from c.loop-column.column c.args.value (omega arith) (omega arith) (omega arith) c.loop-column.invariant.put;
}

pub returns-clause-put : goal.returns-clause-put
returns-clause-put c = λ r k h.
    let end : c.loop-column.column ≡ c.args.to = omega arith in
    subst (λ (e : ℕ). cell c.loop-column.cells c.args.width r k ≡ put_in c.args.cells.now c.args.width c.args.row c.args.from e c.args.value r k) end (c.loop-column.invariant.put r k h)
