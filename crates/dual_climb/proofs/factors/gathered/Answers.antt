-- At the end nothing is left to take.
use Rattle.std.proofs.Common.{◌≡◌, ◌∙◌, List, [], ◌++◌, length, sym, ap, arith, append-nil}
use Rattle.std.proofs.lemmas.List.{at_drop_all}
use Rattle.dual_bound.specs.declared.cert.Mult.{Mult}
use Rattle.dual_bound.specs.Total.{are_fit}
use Rattle.dual_climb.specs.laws.Sums.{weighted}
use Rattle.dual_climb.proofs.Numbering.{kept, kept_few, kept_fit, kept_same}
use Rattle.dual_climb.proofs.factors.gathered.Goals as goal

taken : (list ms : List Mult) (rest : List Mult) → rest ≡ [] → list ++ rest ≡ kept ms → list ≡ kept ms
taken list ms rest e h = sym (ap (λ (xs : List Mult). list ++ xs) e ∙ append-nil list) ∙ h

pub returns-clause-fit : goal.returns-clause-fit
returns-clause-fit c =
    let all = c.args.all.now in
    let is = taken c.loop-mult.list all _ (at_drop_all kept all c.loop-mult.mult-index c.loop-mult-test.false) c.loop-mult.invariant.whole in
    ap (are_fit (length all) 0) is ∙ kept_fit (length all) 0 all c.requires.numbered c.requires.fit

pub returns-clause-few : goal.returns-clause-few
returns-clause-few c =
    let all = c.args.all.now in
    let is = taken c.loop-mult.list all _ (at_drop_all kept all c.loop-mult.mult-index c.loop-mult-test.false) c.loop-mult.invariant.whole in
    omega (arith, ap length is, kept_few all)

pub returns-clause-same : goal.returns-clause-same
returns-clause-same c = λ worth.
    let all = c.args.all.now in
    let is = taken c.loop-mult.list all _ (at_drop_all kept all c.loop-mult.mult-index c.loop-mult-test.false) c.loop-mult.invariant.whole in
    ap (weighted worth) is ∙ kept_same all worth
