-- One derivation more, and the first that is not shown.
use Rattle.std.proofs.Common.{◌≡◌, ◌+◌, List, [], ◌∷◌, ◌++◌, take, get_or, sym, ap, ◌∙◌, subst, arith}
use Rattle.std.proofs.lemmas.List.{take_more}
use Rattle.std.proofs.lemmas.Option.{MatchOption-at_none, MatchOption-at_some}
use Rattle.row_kit.specs.Area.{present}
use Rattle.derivations.specs.declared.derivation.Derivation.{Derivation}
use Rattle.derivations.specs.Growth.{IsShownDerivation, rows_of}
use Rattle.derivations.specs.Larger.{begun}
use Rattle.derivations.specs.laws.Growing.{HasGrownBy}
use Rattle.derivations.proofs.OneMore.{first-unshown, grown-more, rows-within}
use Rattle.derivations.proofs.growing.grow.Goals as goal

pub derive-requires-clause-few_rows : goal.derive-requires-clause-few_rows
derive-requires-clause-few_rows c =
    let ds = c.args.derivations.now in
    let d = c.index-derivations-place.result in
    let same : rows_of (d ∷ []) ≡ rows_of (get_or ds c.loop-place.place d ∷ []) = ap (λ (x : Derivation). rows_of (x ∷ [])) c.index-derivations-place.is in
    omega (arith, c.loop-place.invariant.count, rows-within ds c.loop-place.place d c.loop-place-test.true, same, c.requires.few_rows)

pub returns-in-None : goal.returns-in-None
returns-in-None c = record {
  led = first-unshown c.args.program c.loop-place.grown (present c.args.area.now) (present c.loop-place.area) c.args.derivations.now c.loop-place.place c.index-derivations-place.result c.loop-place-test.true c.loop-place.invariant c.index-derivations-place.is (MatchOption-at_none (¬ IsShownDerivation (begun c.loop-place.grown (present c.loop-place.area)) c.index-derivations-place.result) (HasGrownBy c.loop-place.grown (present c.loop-place.area) (c.index-derivations-place.result ∷ []) (present c.derive.new.area)) c.in-None.is c.in_ok-next.ensures);
}

pub loop-place-preserved : goal.loop-place-preserved
loop-place-preserved c =
    let ds = c.args.derivations.now in
    let d = c.index-derivations-place.result in
    let so_far = take c.loop-place.place ds in
    let more : take (c.loop-place.place + 1) ds ≡ so_far ++ d ∷ [] = take_more ds c.loop-place.place d c.loop-place-test.true ∙ ap (λ (x : Derivation). so_far ++ x ∷ []) (sym c.index-derivations-place.is) in
    subst (λ (xs : List Derivation). HasGrownBy c.args.program (present c.args.area.now) xs (present c.derive.new.area) c.in-Some.next) (sym more)
    (grown-more c.args.program c.loop-place.grown c.in-Some.next (present c.args.area.now) (present c.loop-place.area) (present c.derive.new.area) so_far (d ∷ []) c.loop-place.invariant (MatchOption-at_some (¬ IsShownDerivation (begun c.loop-place.grown (present c.loop-place.area)) d) (HasGrownBy c.loop-place.grown (present c.loop-place.area) (d ∷ []) (present c.derive.new.area)) c.in-Some.next c.in-Some.is c.in_ok-next.ensures))
