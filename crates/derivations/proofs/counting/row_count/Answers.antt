-- One derivation more, and all of them.
use Rattle.std.proofs.Common.{◌≡◌, ◌+◌, [], ◌∷◌, take, get_or, ap, ◌∙◌, arith}
use Rattle.std.proofs.lemmas.List.{take_more}
use Rattle.derivations.specs.declared.derivation.Derivation.{Derivation}
use Rattle.derivations.specs.Growth.{rows_of}
use Rattle.derivations.proofs.OneMore.{rows-few, rows-within, rows_of-append}
use Rattle.derivations.proofs.counting.row_count.Goals as goal

pub overflow_add-count : goal.overflow_add-count
overflow_add-count c =
    let ds = c.args.derivations.now in
    let k = c.loop-place.place in
    let d = c.index-derivations-place.result in
    let so_far : c.loop-place.count ≡ rows_of (take k ds) = c.loop-place.invariant in
    let here : rows_of (d ∷ []) ≡ rows_of (get_or ds k d ∷ []) = ap (λ (x : Derivation). rows_of (x ∷ [])) c.index-derivations-place.is in
    omega (arith, so_far, here, c.rows_in-count.ensures, rows-within ds k d c.loop-place-test.true, rows-few ds)

pub loop-place-preserved : goal.loop-place-preserved
loop-place-preserved c =
    let ds = c.args.derivations.now in
    let k = c.loop-place.place in
    let d = c.index-derivations-place.result in
    let so_far : c.loop-place.count ≡ rows_of (take k ds) = c.loop-place.invariant in
    let here : rows_of (d ∷ []) ≡ rows_of (get_or ds k d ∷ []) = ap (λ (x : Derivation). rows_of (x ∷ [])) c.index-derivations-place.is in
    let next : rows_of (take (k + 1) ds) ≡ rows_of (take k ds) + rows_of (get_or ds k d ∷ []) = ap rows_of (take_more ds k d c.loop-place-test.true) ∙ rows_of-append (take k ds) (get_or ds k d ∷ []) in
    omega (arith, so_far, here, next, c.rows_in-count.ensures)
