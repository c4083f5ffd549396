-- The right part of the split begins where the area has gone back to it.
use Rattle.std.proofs.Common.{◌≡◌, ◌∷◌, ◌+◌, refl, ap, ◌∙◌, subst, length, drop, take, Some}
use Rattle.proof_tree.specs.declared.walk.Expected.TheVariants.{Node}
use Rattle.proof_tree.specs.Cap.{greater, floor_cap}
use Rattle.proof_tree.specs.Views.{present, view_at, KeepsViews}
use Rattle.proof_tree.specs.Walk.{StandBelow}
use Rattle.proof_tree.proofs.Walking.{Led-back, present-back}
use Rattle.proof_tree.proofs.walk.Walk.begin_right.Goals as goal

pub returns-clause-led : goal.returns-clause-led
returns-clause-led g c =
    let s = g.R.Relaxation.steps c.args.r.now in
    let walk = c.args.self.now in
    let split = c.args.split in
    let rest = drop 1 walk.splits in
    let views = g.R.Relaxation.views c.args.area.now in
    let later = g.R.Relaxation.views c.right-named.new.area in
    let moves = c.if-prove.ensures.moves in
    let stand : StandBelow s views (length views) c.args.first (split ∷ rest) = subst (StandBelow s views (length views) c.args.first) c.requires.innermost c.requires.stands in
    let seen = ap present c.back.ensures.views ∙ present-back views split.mark stand.0 in
    let leads : s.right (view_at views split.mark) split.pick ≡ Some (present later) = subst (λ v. s.right v split.pick ≡ Some (present later)) seen moves.0 in
    let keeps : KeepsViews (take (split.mark + 1) views) later = subst (λ vs. KeepsViews vs later) c.back.ensures.views moves.1 in
    let so_far : c.greater_cap.result ≡ greater (floor_cap split.floor) c.args.cap = c.greater_cap.ensures ∙ ap (λ cap. greater cap c.args.cap) c.floor_cap.ensures in
    let held : c.set_top.new.self ≡ record split { left = Some (greater (floor_cap split.floor) c.args.cap) } ∷ rest = c.set_top.ensures ∙ ap (λ cap. record split { left = Some cap } ∷ rest) so_far in
    Led-back s c.args.first walk (record { first = walk.first; splits = c.set_top.new.self; expected = Node }) views later split rest _ (Some (greater (floor_cap split.floor) c.args.cap)) refl leads keeps stand held
