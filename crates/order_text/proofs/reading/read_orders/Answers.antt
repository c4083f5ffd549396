-- One line after another.
use Rattle.std.proofs.Common.{◌≡◌, ℕ, ◌+◌, ◌-◌, ◌==◌, Bool, true, false, length, ap, sym, ◌∙◌, arith, rules}
use Rattle.std.specs.Prelude.{Result, Ok, Err, List}
use Rattle.std.proofs.lemmas.Grind.{common_steps}
use Rattle.std.proofs.lemmas.Result.{err_from_is_err_and}
use Rattle.order_text.specs.ReadConflict.{has_feed, line_of, rest_of, named_by, orders_of, none_kept, bad_line}
use Rattle.order_text.proofs.Orders.{orders-missing, orders-bad, orders-next, orders-end, orders-more, stop_is}
use Rattle.order_text.proofs.reading.read_orders.Goals as goal

pub loop-done-init : goal.loop-done-init
loop-done-init c =
    let whole : c.args.count - 0 ≡ c.args.count = omega arith in
    let none = c.in_ok-kept.ensures in
    record { goes_on = rw (whole, none); each = grind (arith, common_steps) }

pub returns-then-not-has_feed-clause-reads : goal.returns-then-not-has_feed-clause-reads
returns-then-not-has_feed-clause-reads c =
    let none : has_feed c.loop-done.rest.now ≡ false = grind arith in
    c.loop-done.invariant.goes_on ∙ orders-missing c.args.plant.now c.args.count c.loop-done.done (c.loop-done.done + 2) c.loop-done.above c.loop-done.kept.items c.loop-done.rest.now c.loop-done-test.true none

pub returns-in_err-above-clause-reads : goal.returns-in_err-above-clause-reads
returns-in_err-above-clause-reads c =
    let plant = c.args.plant.now in
    let some : has_feed c.loop-done.rest.now ≡ true = grind arith in
    let p = err_from_is_err_and c.from_residual-in_err-above.result c.from_residual-in_err-above.ensures.1 in
    rw (p.1, p.2) (stop_is (orders_of plant c.args.count 2 0 (none_kept plant) c.args.text.now) (c.loop-done.done + 2) (named_by plant c.loop-done.above (line_of c.loop-done.rest.now)) c.in_err-above.field-0.0
    (rw c.cut_at.ensures.before at c.in_err-above.ensures.named)
    (λ kind bad. c.loop-done.invariant.goes_on
    ∙ orders-bad plant c.args.count c.loop-done.done (c.loop-done.done + 2) c.loop-done.above kind c.loop-done.kept.items c.loop-done.rest.now c.loop-done-test.true some bad))

pub loop-done-preserved : goal.loop-done-preserved
loop-done-preserved c =
    let plant = c.args.plant.now in
    let some : has_feed c.loop-done.rest.now ≡ true = grind arith in
    let named : named_by plant c.loop-done.above (line_of c.loop-done.rest.now) ≡ Ok c.in_ok-above.above = rw c.cut_at.ensures.before at c.in_ok-above.ensures.named in
    let next = orders-next plant c.args.count c.loop-done.done (c.loop-done.done + 2) c.loop-done.above c.in_ok-above.above c.loop-done.kept.items c.loop-done.rest.now c.loop-done-test.true some named in
    let line : c.loop-done.done + 2 + 1 ≡ c.loop-done.done + 1 + 2 = omega arith in
    record {
      goes_on = c.loop-done.invariant.goes_on ∙ (rw (line, ← c.cut_at.ensures.after) at next);
      each = grind (arith, common_steps);
    }

pub returns-then-is_empty-clause-reads : goal.returns-then-is_empty-clause-reads
returns-then-is_empty-clause-reads c =
    let none : (length c.loop-done.rest.now == 0) ≡ true = sym c.is_empty.ensures ∙ c.if-is_empty.true in
    c.loop-done.invariant.goes_on ∙ orders-end c.args.plant.now c.args.count c.loop-done.done (c.loop-done.done + 2) c.loop-done.above c.loop-done.kept.items c.loop-done.rest.now c.loop-done-test.false none

pub returns-else-is_empty-clause-reads : goal.returns-else-is_empty-clause-reads
returns-else-is_empty-clause-reads c =
    let some : (length c.loop-done.rest.now == 0) ≡ false = sym c.is_empty.ensures ∙ c.if-is_empty.false in
    let last : c.loop-done.done ≡ c.args.count = omega arith in
    c.loop-done.invariant.goes_on ∙ orders-more c.args.plant.now c.args.count c.loop-done.done (c.loop-done.done + 2) c.loop-done.above c.loop-done.kept.items c.loop-done.rest.now c.loop-done-test.false some
    ∙ ap (λ (n : ℕ). bad_line (n + 2)) last
