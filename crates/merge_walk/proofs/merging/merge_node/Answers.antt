-- Each step leaves less to do, and what follows behind it is what was to follow.
use Rattle.std.proofs.Common.{◌≡◌, ◌∙◌, ℕ, ℤ, List, [], ◌∷◌, map, Option, Some, refl, sym, ap, subst}
use Rattle.std.proofs.Math.Seq.{take-length}
use Rattle.proof_tree.specs.declared.capped.Capped.{Capped}
use Rattle.row_relax.specs.View.{view_of}
use Rattle.log_nodes.proofs.Frames.{none-done}
use Rattle.log_nodes.proofs.Parts.{none-left}
use Rattle.log_nodes.proofs.Walking.{back-there, mark-within}
use Rattle.open_splits.specs.declared.splits.OpenSplit.{OpenSplit}
use Rattle.open_splits.specs.declared.way.Met.TheVariants.{End, Split}
use Rattle.open_splits.specs.declared.way.Way.TheVariants.{Down, Up}
use Rattle.open_splits.specs.laws.Behind.{HasGoneOn, HasMet}
use Rattle.open_splits.specs.laws.Opened.{StandsIn}
use Rattle.open_splits.proofs.Standing.{at-some}
use Rattle.open_splits.proofs.Steps.{IsAt, gone-smaller, met-smaller}
use Rattle.log_parts.specs.laws.Copying.{name_of}
use Rattle.merge_walk.specs.laws.Opened.{GoesOnMerging, Reached, merging_walk}
use Rattle.merge_walk.proofs.Steps.{Begun, gone-further, node-written, walk-up, walk_of, whole_of}
use Rattle.merge_walk.proofs.merging.merge_node.Goals as goal

pub steps-init : goal.steps-init
steps-init g c =
    let begun : Begun = record {
      rows = c.args.merging.rows.now;
      best = c.args.merging.best;
      stem = c.args.merging.stem.now;
      depth = c.args.depth;
      views = map view_of c.args.area.now;
      here = record { told = g.F.Shelf.files c.args.files.now; sources = c.args.sources.now.items; writer = c.args.writer.now };
    } in
    let at : IsAt begun.rows.program (walk_of begun) begun.views (whole_of begun) c.new-splits.result begun.views begun.here (Down begun.depth) =
    subst (λ (splits : List (OpenSplit (Option ℤ) Capped)). IsAt begun.rows.program (walk_of begun) begun.views (whole_of begun) splits begun.views begun.here (Down begun.depth)) (sym c.new-splits.ensures) (take-length begun.views, λ later cap is. is) in
    record { may_read = c.requires.may_read; may_write = c.requires.may_write; apart = c.requires.apart; reading = c.requires.reading; fits = c.requires.fits; named = refl; frame = none-done; at = at }

-- ---- down

pub steps-smaller-in-Some-End : goal.steps-smaller-in-Some-End
steps-smaller-in-Some-End g c =
    let rows = c.args.merging.rows.now in
    let walk = merging_walk rows c.args.merging.best c.args.merging.stem.now (name_of c.steps.writer) in
    let here : Reached = record { told = g.F.Shelf.files c.steps.files; sources = c.steps.sources.items; writer = c.steps.writer } in
    let later : Reached = record { told = g.F.Shelf.files c.merge_here.new.files; sources = c.merge_here.new.sources.items; writer = c.merge_here.new.writer } in
    let views = map view_of c.steps.area in
    let wide = map view_of c.merge_here.new.area in
    let met = at-some (HasMet rows.program walk 36865 c.in-Down.below c.in-Down.below views wide here later) (c.in-Some-End.is ∙ ap Some c.in-Some-End.field-0-is) c.in_ok-merge_here-in-Down.ensures.written in
    met-smaller rows.program walk views wide here later 36865 (λ (depth : ℕ). depth) c.in-Down.below c.steps.splits c.steps.splits (End c.in-Some-End.cap) c.steps.way (Up c.in-Some-End.cap) (λ split left. refl) c.in-Down.is met (refl, refl)

pub steps-preserved-in-Some-End : goal.steps-preserved-in-Some-End
steps-preserved-in-Some-End g c =
    let said = c.in_ok-merge_here-in-Down.ensures in
    let is = c.in-Some-End.is ∙ ap Some c.in-Some-End.field-0-is in
    let on : GoesOnMerging c.args.merging (g.F.Shelf.files c.merge_here.new.files) c.steps.sources.items c.merge_here.new.sources.items c.merge_here.new.area = at-some _ is said.on in
    node-written c.in-Down.below (End c.in-Some-End.cap) c.steps.invariant c.in-Down.is on.same said.frame said.named on.reading on.fits (at-some _ is said.written) (refl, refl)

pub steps-smaller-in-Some-Split : goal.steps-smaller-in-Some-Split
steps-smaller-in-Some-Split g c =
    let rows = c.args.merging.rows.now in
    let walk = merging_walk rows c.args.merging.best c.args.merging.stem.now (name_of c.steps.writer) in
    let here : Reached = record { told = g.F.Shelf.files c.steps.files; sources = c.steps.sources.items; writer = c.steps.writer } in
    let later : Reached = record { told = g.F.Shelf.files c.merge_here.new.files; sources = c.merge_here.new.sources.items; writer = c.merge_here.new.writer } in
    let views = map view_of c.steps.area in
    let wide = map view_of c.merge_here.new.area in
    let met = at-some (HasMet rows.program walk 36865 c.in-Down.below c.in-Down.below views wide here later) (c.in-Some-Split.is ∙ ap Some c.in-Some-Split.field-0-is) c.in_ok-merge_here-in-Down.ensures.written in
    met-smaller rows.program walk views wide here later 36865 (λ (depth : ℕ). depth) c.in-Down.below c.steps.splits c.push.new.self (Split c.in-Some-Split.split) c.steps.way (Down c.in-Some-Split.split.below) (λ split left. refl) c.in-Down.is met (c.in_ok-push-in-Some-Split.ensures.ok, refl)

pub steps-preserved-in-Some-Split : goal.steps-preserved-in-Some-Split
steps-preserved-in-Some-Split g c =
    let said = c.in_ok-merge_here-in-Down.ensures in
    let is = c.in-Some-Split.is ∙ ap Some c.in-Some-Split.field-0-is in
    let on : GoesOnMerging c.args.merging (g.F.Shelf.files c.merge_here.new.files) c.steps.sources.items c.merge_here.new.sources.items c.merge_here.new.area = at-some _ is said.on in
    node-written c.in-Down.below (Split c.in-Some-Split.split) c.steps.invariant c.in-Down.is on.same said.frame said.named on.reading on.fits (at-some _ is said.written) (c.in_ok-push-in-Some-Split.ensures.ok, refl)

-- ---- up

pub go_on-requires-clause-within : goal.go_on-requires-clause-within
go_on-requires-clause-within g c =
    (subst (λ (splits : List (OpenSplit (Option ℤ) Capped)). StandsIn (map view_of c.args.area.now) splits (map view_of c.steps.area)) c.in-Some.ensures c.steps.invariant.at.0).0

pub steps-smaller : goal.steps-smaller
steps-smaller g c =
    let rows = c.args.merging.rows.now in
    let best = c.args.merging.best in
    let stem = c.args.merging.stem.now in
    let name = name_of c.args.writer.now in
    let views = map view_of c.steps.area in
    let wide = map view_of c.go_on.new.area in
    let split = c.in-Some.split in
    let rest = c.take_top.new.self in
    let further = c.go_on.new.splits in
    let gone = at-some (HasGoneOn rows.program (merging_walk rows best stem name) split c.in-Up.cap rest further views wide) c.in-Some-2.is (c.in_ok-next-in-Up.ensures.gone best stem name) in
    gone-smaller rows.program (merging_walk rows best stem name) views wide 36865 (λ (depth : ℕ). depth) split c.in-Up.cap rest c.steps.splits further c.steps.way c.in-Some-2.next (λ split left. refl) c.in-Up.is c.in-Some.ensures gone

pub steps-preserved : goal.steps-preserved
steps-preserved g c =
    let rows = c.args.merging.rows.now in
    let best = c.args.merging.best in
    let stem = c.args.merging.stem.now in
    let name = name_of c.args.writer.now in
    let gone = at-some (HasGoneOn rows.program (merging_walk rows best stem name) c.in-Some.split c.in-Up.cap c.take_top.new.self c.go_on.new.splits (map view_of c.steps.area) (map view_of c.go_on.new.area)) c.in-Some-2.is (c.in_ok-next-in-Up.ensures.gone best stem name) in
    gone-further c.in-Some.split c.take_top.new.self c.go_on.new.splits c.in-Up.cap c.in-Some-2.next c.steps.invariant c.in-Up.is c.in-Some.ensures c.in_ok-next-in-Up.ensures.fits gone

-- ---- the end of the walk

pub back-requires-clause-within : goal.back-requires-clause-within
back-requires-clause-within g c =
    let begun = map view_of c.args.area.now in
    let views = map view_of c.steps.area in
    let none = none-left c.take_top.result (λ top. c.steps.splits ≡ top ∷ c.take_top.new.self) c.take_top.ensures c.in_default.not-Some in
    mark-within begun views views c.mark-mark.result c.mark-mark.ensures (subst (λ (splits : List (OpenSplit (Option ℤ) Capped)). StandsIn begun splits views) none.0 c.steps.invariant.at.0) refl

pub returns-in_default-clause-merged : goal.returns-in_default-clause-merged
returns-in_default-clause-merged g c =
    let none = none-left c.take_top.result (λ top. c.steps.splits ≡ top ∷ c.take_top.new.self) c.take_top.ensures c.in_default.not-Some in
    (walk-up c.in-Up.cap [] c.steps.invariant c.in-Up.is none.0).1.1

pub returns-in_default-clause-as_before : goal.returns-in_default-clause-as_before
returns-in_default-clause-as_before g c =
    let begun = map view_of c.args.area.now in
    let views = map view_of c.steps.area in
    let none = none-left c.take_top.result (λ top. c.steps.splits ≡ top ∷ c.take_top.new.self) c.take_top.ensures c.in_default.not-Some in
    back-there begun views views (map view_of c.back.new.area) c.mark-mark.result c.mark-mark.ensures (subst (λ (splits : List (OpenSplit (Option ℤ) Capped)). StandsIn begun splits views) none.0 c.steps.invariant.at.0) refl c.back.ensures.views
