-- One slot more, and all of them.
use Rattle.std.proofs.Common.{◌≡◌, ◌++◌, ◌∷◌, [], ◌<◌, false, List, take, get_or, length, sym, subst, ap, ◌∙◌, arith}
use Rattle.std.proofs.lemmas.List.{take_all, take_more}
use Rattle.std.proofs.lemmas.List.Elements.{All-push}
use Rattle.std.specs.List.{All}
use Rattle.row_kit.specs.Domain.{IsNormal}
use Rattle.row_kit.specs.declared.domain.Domain.{Domain}
use Rattle.derivations.specs.Larger.{met}
use Rattle.derivations.proofs.Shares.{length-met, met-at}
use Rattle.derivations.proofs.meeting.meet.Goals as goal

pub loop-slot-preserved : goal.loop-slot-preserved
loop-slot-preserved c =
    let one = c.args.one.now in
    let other = c.args.other.now in
    let k = c.loop-slot.slot in
    let d : Domain = record { zero = false; lo = 0; hi = 0 } in
    let both : k < length other = omega arith in
    let long : k < length (met one other) = omega (arith, length-met one other c.requires.same_slots) in
    let here : c.shared.result ≡ get_or (met one other) k d = c.shared.ensures.written ∙ sym (met-at one other k d c.requires.same_slots (omega arith)) in
    record {
      so_far = c.in_ok-push.ensures.ok ∙ ap (λ (xs : List Domain). xs ++ c.shared.result ∷ []) c.loop-slot.invariant.so_far ∙ ap (λ (x : Domain). take k (met one other) ++ x ∷ []) here ∙ sym (take_more (met one other) k d long);
      normal = subst (All IsNormal) (sym c.in_ok-push.ensures.ok) (All-push IsNormal c.loop-slot.domains c.shared.result c.loop-slot.invariant.normal (c.shared.ensures.normal (c.requires.normal k d (omega arith))));
    }

pub returns-clause-met : goal.returns-clause-met
returns-clause-met c =
    let whole = met c.args.one.now c.args.other.now in
    let long : length whole ≡ length c.args.one.now = length-met c.args.one.now c.args.other.now c.requires.same_slots in
    c.loop-slot.invariant.so_far ∙ take_all c.loop-slot.slot whole (omega arith)
