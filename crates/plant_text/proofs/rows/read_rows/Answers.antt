use Rattle.std.proofs.Common.{arith}
use Rattle.std.proofs.lemmas.List.{length_push}
use Rattle.std.proofs.lemmas.Result.{err_from_is_err_and}
use Rattle.toml.specs.View.{view}
use Rattle.plant_text.specs.Scope.{scope_of}
use Rattle.plant_text.proofs.Reading.{loop_start, loop_on, loop_err, loop_end}
use Rattle.plant_text.proofs.rows.read_rows.Goals as goal

pub loop-item-init : goal.loop-item-init
loop-item-init g c = rw c.new-rows.ensures record {
  is_at = loop_start view (g.R.Row.tests (scope_of c.args.context.now) c.args.owner) (g.R.Row.made (scope_of c.args.context.now) c.args.owner) c.args.items.now;
  few = omega arith;
}

pub returns-in_err-row-clause-gives : goal.returns-in_err-row-clause-gives
returns-in_err-row-clause-gives g c =
    let tests = g.R.Row.tests (scope_of c.args.context.now) c.args.owner in
    let made = g.R.Row.made (scope_of c.args.context.now) c.args.owner in
    let p = err_from_is_err_and c.from_residual.result c.from_residual.ensures.1 in
    let h = rw c.as_slice.ensures at c.in_err-row.ensures in
    rw (p.1, p.2) (loop_err view tests made c.in_err-row.field-0.0 c.args.items.now c.loop-item.item-index c.item-item.result c.loop-item.rows c.loop-item-test.true c.item-item.is h c.loop-item.invariant.is_at)

pub loop-item-preserved : goal.loop-item-preserved
loop-item-preserved g c =
    let tests = g.R.Row.tests (scope_of c.args.context.now) c.args.owner in
    let made = g.R.Row.made (scope_of c.args.context.now) c.args.owner in
    let h = rw c.as_slice.ensures at c.in_ok-row.ensures in
    rw c.in_ok-push.ensures.ok record {
      is_at = loop_on view tests made c.args.items.now c.loop-item.item-index c.item-item.result c.loop-item.rows c.in_ok-row.row c.loop-item-test.true c.item-item.is h.0 h.1 c.loop-item.invariant.is_at;
      few = omega (arith, length_push c.loop-item.rows c.in_ok-row.row);
    }

pub returns-clause-gives : goal.returns-clause-gives
returns-clause-gives g c =
    let tests = g.R.Row.tests (scope_of c.args.context.now) c.args.owner in
    let made = g.R.Row.made (scope_of c.args.context.now) c.args.owner in
    loop_end view tests made c.args.items.now c.loop-item.item-index c.loop-item.rows c.loop-item-test.false c.loop-item.invariant.is_at
