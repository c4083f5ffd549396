-- One derivation more.
use Rattle.std.proofs.Common.{◌≡◌, ◌+◌, List, [], ◌∷◌, ◌++◌, take, get_or, sym, ap, ◌∙◌, subst, arith}
use Rattle.std.proofs.lemmas.List.{take_more}
use Rattle.row_kit.specs.Area.{present}
use Rattle.derivations.specs.declared.derivation.Derivation.{Derivation}
use Rattle.derivations.specs.Growth.{rows_of}
use Rattle.derivations.specs.laws.Growing.{HasGrownAnew}
use Rattle.derivations.proofs.Again.{anew-more}
use Rattle.derivations.proofs.OneMore.{rows-within}
use Rattle.derivations.proofs.anew.grow_anew.Goals as goal

pub derive_anew-requires-clause-few_rows : goal.derive_anew-requires-clause-few_rows
derive_anew-requires-clause-few_rows c =
    let ds = c.args.derivations.now in
    let d = c.index-derivations-place.result in
    let same : rows_of (d ∷ []) ≡ rows_of (get_or ds c.loop-place.place d ∷ []) = ap (λ (x : Derivation). rows_of (x ∷ [])) c.index-derivations-place.is in
    omega (arith, c.loop-place.invariant.count, rows-within ds c.loop-place.place d c.loop-place-test.true, same, c.requires.few_rows)

pub loop-place-preserved : goal.loop-place-preserved
loop-place-preserved c =
    let ds = c.args.derivations.now in
    let d = c.index-derivations-place.result in
    let so_far = take c.loop-place.place ds in
    let more : take (c.loop-place.place + 1) ds ≡ so_far ++ d ∷ [] = take_more ds c.loop-place.place d c.loop-place-test.true ∙ ap (λ (x : Derivation). so_far ++ x ∷ []) (sym c.index-derivations-place.is) in
    subst (λ (xs : List Derivation). HasGrownAnew c.args.program (present c.args.area.now) xs (present c.derive_anew.new.area) c.in_ok-grown.grown) (sym more)
    (anew-more c.args.program c.loop-place.grown c.in_ok-grown.grown (present c.args.area.now) (present c.loop-place.area) (present c.derive_anew.new.area) so_far (d ∷ []) c.loop-place.invariant c.in_ok-grown.ensures)
