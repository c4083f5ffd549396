-- Each step leaves less to do, and what follows behind it is what was to follow.
use Rattle.std.proofs.Common.{◌≡◌, ◌∙◌, List, [], ◌∷◌, map, Option, Some, refl, sym, ap, subst, arith}
use Rattle.std.proofs.Math.Seq.{take-length}
use Rattle.stn_edge.specs.Files.{FileMap}
use Rattle.proof_tree.specs.Views.{present}
use Rattle.row_relax.specs.View.{view_of}
use Rattle.log_nodes.specs.Reading.{IsReading}
use Rattle.log_nodes.proofs.Parts.{none-left}
use Rattle.log_nodes.proofs.Walking.{back-there, mark-within}
use Rattle.open_splits.specs.declared.splits.OpenSplit.{OpenSplit}
use Rattle.open_splits.specs.declared.way.Met.TheVariants.{End, Split}
use Rattle.open_splits.specs.declared.way.Way.TheVariants.{Down, Up}
use Rattle.open_splits.specs.laws.Behind.{HasGoneOn, HasMet}
use Rattle.open_splits.specs.laws.Opened.{StandsIn}
use Rattle.open_splits.proofs.Steps.{IsAt, gone-on, gone-smaller, met-smaller}
use Rattle.log_growth.specs.declared.counts.Growth.{Growth}
use Rattle.log_growth.specs.declared.way.Kept.{Kept}
use Rattle.log_growth.specs.laws.Opened.{Grows, growing}
use Rattle.open_splits.proofs.Standing.{at-some}
use Rattle.log_growth.proofs.Steps.{depth_of, node-read, part-below, turns-on}
use Rattle.log_growth.proofs.growing.grown.Goals as goal

pub steps-init : goal.steps-init
steps-init g c =
    let pair = c.args.pair in
    let told = g.F.Shelf.files c.args.files.now in
    let begun = map view_of c.args.area.now in
    let whole = Grows pair told c.args.place (present begun) c.args.readers.now in
    record {
      can = c.requires.can;
      frame = record { same = refl; readable = refl; writable = refl; later = omega arith; no_write = refl };
      at = subst (λ (splits : List (OpenSplit Kept Growth)). IsAt pair.rows.now.program (growing pair told) begun whole splits begun c.args.readers.now (Down c.args.place)) (sym c.new-splits.ensures) (take-length begun, λ later growth is. is);
    }

-- ---- down

pub steps-smaller-in-Some-End : goal.steps-smaller-in-Some-End
steps-smaller-in-Some-End g c =
    let pair = c.args.pair in
    let told = g.F.Shelf.files c.steps.files in
    let views = map view_of c.steps.area in
    let wide = map view_of c.grown_here.new.area in
    let below = c.in-Down.below in
    let met = at-some (HasMet pair.rows.now.program (growing pair told) pair.most below.depth below views wide c.steps.readers c.grown_here.new.readers) (c.in-Some-End.is ∙ ap Some c.in-Some-End.field-0-is) c.in_ok-grown_here-in-Down.ensures.met in
    met-smaller pair.rows.now.program (growing pair told) views wide c.steps.readers c.grown_here.new.readers pair.most depth_of below c.steps.splits c.steps.splits (End c.in-Some-End.growth) c.steps.way (Up c.in-Some-End.growth) part-below c.in-Down.is met (refl, refl)

pub steps-preserved-in-Some-End : goal.steps-preserved-in-Some-End
steps-preserved-in-Some-End g c =
    let said = c.in_ok-grown_here-in-Down.ensures in
    let is = c.in-Some-End.is ∙ ap Some c.in-Some-End.field-0-is in
    node-read c.in-Down.below (End c.in-Some-End.growth) c.steps.invariant.frame.same c.steps.invariant c.in-Down.is said.frame (at-some _ is said.log_reading) (at-some _ is said.out_reading) (at-some _ is said.fits) (at-some _ is said.met) (refl, refl)

pub steps-smaller-in-Some-Split : goal.steps-smaller-in-Some-Split
steps-smaller-in-Some-Split g c =
    let pair = c.args.pair in
    let told = g.F.Shelf.files c.steps.files in
    let views = map view_of c.steps.area in
    let wide = map view_of c.grown_here.new.area in
    let below = c.in-Down.below in
    let met = at-some (HasMet pair.rows.now.program (growing pair told) pair.most below.depth below views wide c.steps.readers c.grown_here.new.readers) (c.in-Some-Split.is ∙ ap Some c.in-Some-Split.field-0-is) c.in_ok-grown_here-in-Down.ensures.met in
    met-smaller pair.rows.now.program (growing pair told) views wide c.steps.readers c.grown_here.new.readers pair.most depth_of below c.steps.splits c.push.new.self (Split c.in-Some-Split.split) c.steps.way (Down c.left_of.result) part-below c.in-Down.is met (c.in_ok-push-in-Some-Split.ensures.ok, ap Down c.left_of.ensures)

pub steps-preserved-in-Some-Split : goal.steps-preserved-in-Some-Split
steps-preserved-in-Some-Split g c =
    let said = c.in_ok-grown_here-in-Down.ensures in
    let is = c.in-Some-Split.is ∙ ap Some c.in-Some-Split.field-0-is in
    node-read c.in-Down.below (Split c.in-Some-Split.split) c.steps.invariant.frame.same c.steps.invariant c.in-Down.is said.frame (at-some _ is said.log_reading) (at-some _ is said.out_reading) (at-some _ is said.fits) (at-some _ is said.met) (c.in_ok-push-in-Some-Split.ensures.ok, ap Down c.left_of.ensures)

-- ---- up

pub go_on-requires-clause-within : goal.go_on-requires-clause-within
go_on-requires-clause-within g c =
    (subst (λ (splits : List (OpenSplit Kept Growth)). StandsIn (map view_of c.args.area.now) splits (map view_of c.steps.area)) c.in-Some.ensures c.steps.invariant.at.0).0

pub steps-smaller : goal.steps-smaller
steps-smaller g c =
    let pair = c.args.pair in
    let told = g.F.Shelf.files c.args.files.now in
    let views = map view_of c.steps.area in
    let wide = map view_of c.go_on.new.area in
    let split = c.in-Some.split in
    let rest = c.take_top.new.self in
    let further = c.go_on.new.splits in
    let gone = at-some (HasGoneOn pair.rows.now.program (growing pair told) split c.in-Up.growth rest further views wide) c.in-Some-2.is (c.in_ok-next-in-Up.ensures.gone pair told) in
    gone-smaller pair.rows.now.program (growing pair told) views wide pair.most depth_of split c.in-Up.growth rest c.steps.splits further c.steps.way c.in-Some-2.next part-below c.in-Up.is c.in-Some.ensures gone

pub steps-preserved : goal.steps-preserved
steps-preserved g c =
    let pair = c.args.pair in
    let told = g.F.Shelf.files c.args.files.now in
    let views = map view_of c.steps.area in
    let wide = map view_of c.go_on.new.area in
    let begun = map view_of c.args.area.now in
    let whole = Grows pair told c.args.place (present begun) c.args.readers.now in
    let split = c.in-Some.split in
    let rest = c.take_top.new.self in
    let further = c.go_on.new.splits in
    let gone = at-some (HasGoneOn pair.rows.now.program (growing pair told) split c.in-Up.growth rest further views wide) c.in-Some-2.is (c.in_ok-next-in-Up.ensures.gone pair told) in
    let at = subst (λ (splits : List (OpenSplit Kept Growth)). IsAt pair.rows.now.program (growing pair told) begun whole splits views c.steps.readers (Up c.in-Up.growth)) c.in-Some.ensures (subst (IsAt pair.rows.now.program (growing pair told) begun whole c.steps.splits views c.steps.readers) c.in-Up.is c.steps.invariant.at) in
    turns-on c.steps.invariant c.in_ok-next-in-Up.ensures.fits (gone-on pair.rows.now.program (growing pair told) begun whole split rest further views wide c.steps.readers c.in-Up.growth c.in-Some-2.next at gone)

-- ---- the end of the walk

pub back-requires-clause-within : goal.back-requires-clause-within
back-requires-clause-within g c =
    let begun = map view_of c.args.area.now in
    let views = map view_of c.steps.area in
    let none = none-left c.take_top.result (λ top. c.steps.splits ≡ top ∷ c.take_top.new.self) c.take_top.ensures c.in_default.not-Some in
    mark-within begun views views c.mark-mark.result c.mark-mark.ensures (subst (λ (splits : List (OpenSplit Kept Growth)). StandsIn begun splits views) none.0 c.steps.invariant.at.0) refl

pub returns-in_default-clause-grown : goal.returns-in_default-clause-grown
returns-in_default-clause-grown g c =
    let pair = c.args.pair in
    let told = g.F.Shelf.files c.args.files.now in
    let begun = map view_of c.args.area.now in
    let views = map view_of c.steps.area in
    let whole = Grows pair told c.args.place (present begun) c.args.readers.now in
    let none = none-left c.take_top.result (λ top. c.steps.splits ≡ top ∷ c.take_top.new.self) c.take_top.ensures c.in_default.not-Some in
    let at : IsAt pair.rows.now.program (growing pair told) begun whole [] views c.steps.readers (Up c.in-Up.growth) =
    subst (λ (splits : List (OpenSplit Kept Growth)). IsAt pair.rows.now.program (growing pair told) begun whole splits views c.steps.readers (Up c.in-Up.growth)) none.0 (subst (IsAt pair.rows.now.program (growing pair told) begun whole c.steps.splits views c.steps.readers) c.in-Up.is c.steps.invariant.at) in
    record {
      is_so = at.1;
      log_reading = subst (λ (files : Option FileMap). IsReading files pair.log.now c.steps.readers.log) c.steps.invariant.frame.same c.steps.invariant.can.log_reading;
      out_reading = subst (λ (files : Option FileMap). IsReading files pair.out.now c.steps.readers.out) c.steps.invariant.frame.same c.steps.invariant.can.out_reading;
      as_before = back-there begun views views (map view_of c.back.new.area) c.mark-mark.result c.mark-mark.ensures at.0 refl c.back.ensures.views;
    }
