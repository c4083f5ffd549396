-- One more log begins its proof.
use Rattle.std.proofs.Common.{◌<◌, ◌++◌, ◌∷◌, [], ℕ, List, None, Option, get_or, length, refl, subst, sym, take}
use Rattle.std.proofs.lemmas.List.{take_more}
use Rattle.stn_edge.specs.Files.{FileMap}
use Rattle.proof_log.specs.LogReading.{HasRead}
use Rattle.merged_nodes.specs.declared.sources.Source.{Source}
use Rattle.merge_ends.specs.laws.Begun.{AreBegun, IsSourceBegun}
use Rattle.merge_ends.proofs.SourcesBegun.{begun-more, there-by}
use Rattle.merge_ends.proofs.readers.begin_all.Goals as goal

pub loop-number-preserved : goal.loop-number-preserved
loop-number-preserved c =
    let fronts = c.args.work.fronts.now in
    let order = c.args.work.order.now in
    let place = c.loop-number.number-index in
    let number = get_or order place 0 in
    let within : number < length fronts = c.requires place 0 c.loop-number-test.true in
    let reader = c.in_ok-begin_behind.field-0 in
    let source : Source = record { number = number; reader = reader; depth = 0 } in
    let is : IsSourceBegun fronts number source = record {
      number_is = refl;
      above = refl;
      begun = there-by fronts number _ (λ front. (told : Option FileMap) (name : List ℕ) → HasRead told name front.version front.head front.limits [] None reader) within c.in_ok-begin_behind.ensures;
    } in
    subst (λ (o : List ℕ). AreBegun fronts o c.push.new.self.items) (sym (take_more order place 0 c.loop-number-test.true))
    (subst (AreBegun fronts (take place order ++ number ∷ [])) (sym c.in_ok-push.ensures.items) (begun-more fronts (take place order) number c.loop-number.sources.items source c.loop-number.invariant is))
