-- The ends have met where neither neighbour is less.
use Rattle.std.proofs.Common.{◌≡◌, ◌+◌, ◌-◌, ◌<◌, ◌^◌, ℕ, sym, subst, arith, ◌≤ℤ◌}
use Rattle.row_kit.specs.Area.{present}
use Rattle.dual_climb.specs.laws.Along.{part_along}
use Rattle.dual_climb.proofs.Convex.{least_by_neighbours, not_rising, part_convex}
use Rattle.dual_climb.proofs.least.between.Goals as goal
use Rattle.dual_climb.proofs.least.between.Goals.{then-rises, else-rises}

pub loop-low-preserved : goal.loop-low-preserved
loop-low-preserved c =
    let h = part_along c.args.gains.now.lines.items (present c.args.area.now) c.args.row.now c.args.own in
    let middle = c.probe-middle.result in
    let inv = c.loop-low.invariant in
    elim c.if-rises.branch [
      | then-rises w ↦
          record {
            ordered = omega (arith, w.low-is, w.high-is, c.probe-middle.ensures);
            range = omega (arith, w.high-is, c.probe-middle.ensures, inv.range);
            some = c.doubled-reach.ensures.0;
            few = c.doubled-reach.ensures.1;
            falls = subst (λ (n : ℕ). 0 < n → h n ≤ℤ h (n - 1)) (sym w.low-is) inv.falls;
            rises = subst (λ (n : ℕ). n < 2 ^ 40 → h n ≤ℤ h (n + 1)) (sym w.high-is) (λ _. c.rises.ensures.0 w.if-rises.true);
          }
      | else-rises w ↦
          let back : middle ≡ middle + 1 - 1 = omega arith in
          record {
            ordered = omega (arith, w.low-is, w.high-is, c.probe-middle.ensures);
            range = omega (arith, w.high-is, inv.range);
            some = c.doubled-reach.ensures.0;
            few = c.doubled-reach.ensures.1;
            falls = subst (λ (n : ℕ). 0 < n → h n ≤ℤ h (n - 1)) (sym w.low-is)
                (λ _. subst (λ (n : ℕ). h (middle + 1) ≤ℤ h n) back (not_rising c.rises.result (h middle) (h (middle + 1)) c.rises.ensures.1 w.if-rises.false));
            rises = subst (λ (n : ℕ). n < 2 ^ 40 → h n ≤ℤ h (n + 1)) (sym w.high-is) inv.rises;
          }
    ]

pub returns-clause-least : goal.returns-clause-least
returns-clause-least c =
    let h = part_along c.args.gains.now.lines.items (present c.args.area.now) c.args.row.now c.args.own in
    let low = c.loop-low.low in
    let met : c.loop-low.high ≡ low = omega (arith, c.loop-low-test.false, c.loop-low.invariant.ordered) in
    least_by_neighbours h (part_convex c.args.gains.now.lines.items (present c.args.area.now) c.args.row.now c.args.own) low (2 ^ 40)
    (subst (λ (n : ℕ). n < 2 ^ 40 → h n ≤ℤ h (n + 1)) met c.loop-low.invariant.rises)
    c.loop-low.invariant.falls
