-- A value that does not pass is not the last.
use Rattle.std.proofs.Common.{◌≡◌, ◌∙◌, suc, ◌+◌, ◌-◌, ◌<◌, false, ap, sym, arith, ℕ}
use Rattle.dual_bound.specs.Trimmed.{last_passing}
use Rattle.dual_bound.specs.laws.Reach.{reaches}
use Rattle.dual_bound.proofs.Passing.{last_more}
use Rattle.dual_bound.proofs.trimming.last_reaching.Goals as goal

pub loop-gone-preserved : goal.loop-gone-preserved
loop-gone-preserved c =
    let gone = c.loop-gone.gone in
    let lo = c.args.lo in
    let hi = c.args.hi in
    let test = reaches c.args.line.now c.args.need.now in
    let n = hi + 1 - lo - (gone + 1) in
    let lt : gone < hi - lo + 1 = omega (arith, c.loop-gone-test.true, c.loop-gone.auto.gone-end) in
    let more : suc n ≡ hi + 1 - lo - gone = omega (arith, lt, c.requires.range) in
    let at : hi - gone ≡ lo + n = omega (arith, lt, c.requires.range) in
    let fails : test (hi - gone) ≡ false = sym c.reaches.ensures ∙ c.if-reaches.false in
    sym (last_more test n lo (hi - gone) at fails) ∙ ap (λ (m : ℕ). last_passing test m lo) more ∙ c.loop-gone.invariant
