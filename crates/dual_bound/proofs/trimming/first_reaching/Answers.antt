-- A value that does not pass is not the first.
use Rattle.std.proofs.Common.{◌≡◌, ◌∙◌, suc, ◌+◌, ◌-◌, ◌<◌, false, ap, sym, arith, ℕ}
use Rattle.dual_bound.specs.Trimmed.{first_passing}
use Rattle.dual_bound.specs.laws.Reach.{reaches}
use Rattle.dual_bound.proofs.Passing.{first_more}
use Rattle.dual_bound.proofs.trimming.first_reaching.Goals as goal

pub loop-value-preserved : goal.loop-value-preserved
loop-value-preserved c =
    let v = c.loop-value.value in
    let test = reaches c.args.line.now c.args.need.now in
    let n = c.args.hi + 1 - (v + 1) in
    let lt : v < c.args.hi + 1 = omega (arith, c.loop-value-test.true, c.loop-value.auto.value-end, c.from-end.ensures) in
    let more : suc n ≡ c.args.hi + 1 - v = omega (arith, lt) in
    let fails : test v ≡ false = sym c.reaches.ensures ∙ c.if-reaches.false in
    sym (first_more test n v fails) ∙ ap (λ (m : ℕ). first_passing test m v) more ∙ c.loop-value.invariant
