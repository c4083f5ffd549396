-- The new split stands at the mark of what it has not forgotten, where its pick names parts.
use Rattle.std.proofs.Common.{◌≡◌, ◌∷◌, ℤ, map, drop, Option, None, refl, ap, ◌∙◌, subst}
use Rattle.proof_tree.specs.declared.walk.Expected.TheVariants.{Node}
use Rattle.proof_tree.specs.declared.walk.OpenSplit.{OpenSplit}
use Rattle.proof_tree.specs.declared.walk.Took.TheVariants.{More}
use Rattle.proof_tree.specs.Views.{View, present}
use Rattle.proof_tree.specs.Walk.{going_to, opened}
use Rattle.proof_tree.specs.laws.Led.{Led}
use Rattle.proof_tree.proofs.Walking.{Led-trimmed, IsSome-named}
use Rattle.proof_tree.proofs.WalkLaw.{split_over}
use Rattle.proof_tree.proofs.walk.Walk.open_split.Goals as goal

pub returns-then-left-clause-led : goal.returns-then-left-clause-led
returns-then-left-clause-led g c =
    let r = c.args.r.now in
    let s = g.R.Relaxation.steps r in
    let old = c.args.self.now in
    let new = record old { splits = c.set_top.new.self; expected = Node } in
    let views = g.R.Relaxation.views c.args.area.now in
    let trimmed = g.R.Relaxation.views c.trim-floor.new.area in
    let later = g.R.Relaxation.views c.left.new.area in
    let pick = c.args.pick.now in
    let split : OpenSplit g.row.R-Pick.Denot = record { mark = c.mark-mark.result; pick = pick; floor = c.trim-floor.result; left = None } in
    let moves = c.if-left.ensures.moves in
    let named = IsSome-named _ ((g.met.R.Relaxation.sound r).parts_alike (present trimmed) _ pick c.trim-floor.ensures.fits moves.0) in
    let held : c.set_top.new.self ≡ split ∷ old.splits = c.set_top.ensures ∙ ap (λ xs. split ∷ drop 1 xs) c.in_ok-push.ensures.ok in
    let led = Led-trimmed s c.args.first old new views trimmed later split old.splits _ refl c.mark-mark.ensures moves.0 c.trim-floor.ensures.keeps moves.1 named c.requires.stands held in
    let LeadsTo : View → Option ℤ → Type 0 = λ v floor. Led s c.args.first old views More new later (going_to Node (split_over v pick floor None ∷ map (opened views) old.splits) (s.left v pick)) in
    subst (λ floor. LeadsTo (s.trim (present views) pick c.args.cert.now) floor) c.trim-floor.ensures.floor
    (subst (λ v. LeadsTo v c.trim-floor.result) c.trim-floor.ensures.trimmed led)
