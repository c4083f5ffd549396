-- Each node leaves fewer to write, and where none is open, the area goes back to where the walk began.
use Rattle.std.proofs.Common.{List, map, refl, sym, subst}
use Rattle.std.specs.Prelude.{⊤}
use Rattle.std.proofs.Math.Seq.{take-length}
use Rattle.row_relax.specs.View.{view_of}
use Rattle.log_nodes.proofs.Frames.{both-then, none-done}
use Rattle.log_nodes.proofs.Walking.{back-there, mark-within}
use Rattle.open_splits.specs.declared.splits.OpenSplit.{OpenSplit}
use Rattle.open_splits.specs.laws.Opened.{StandsIn}
use Rattle.resumed_log.specs.laws.Walks.{HasNext}
use Rattle.resumed_log.proofs.OpenSplits.{end-stands, next-fewer, next-stands, passed-fits, passed-stands, stands-anywhere, writes-on}
use Rattle.resumed_log.proofs.writing.write_node.Goals as goal

pub nodes-init : goal.nodes-init
nodes-init g c = record {
  can = c.requires.can;
  named = refl;
  frame = none-done;
  stands = subst (λ (splits : List (OpenSplit ⊤ ⊤)). StandsIn (map view_of c.args.area.now) splits (map view_of c.args.area.now)) (sym c.new-splits.ensures) (take-length (map view_of c.args.area.now));
}

-- ---- behind a node

pub go_on-requires-clause-fits : goal.go_on-requires-clause-fits
go_on-requires-clause-fits g c = passed-fits c.args.walk.pair c.nodes.depth (map view_of c.nodes.area) (map view_of c.write_here.new.area) c.in_ok-split.split c.in_ok-split.ensures.passed

pub go_on-requires-clause-stands : goal.go_on-requires-clause-stands
go_on-requires-clause-stands g c =
    let begun = map view_of c.args.area.now in
    stands-anywhere begun _ _ (passed-stands c.args.walk.pair c.nodes.depth begun c.nodes.splits (map view_of c.nodes.area) (map view_of c.write_here.new.area) c.in_ok-split.split c.in_ok-split.ensures.passed c.nodes.invariant.stands)

pub nodes-smaller : goal.nodes-smaller
nodes-smaller g c =
    let next = subst (HasNext c.in_ok-split.split c.nodes.splits c.go_on.new.splits (map view_of c.write_here.new.area) (map view_of c.go_on.new.area)) c.in-Some.is c.in_ok-below.ensures.next in
    next-fewer c.args.walk.pair c.nodes.depth c.in-Some.below c.in_ok-split.split c.nodes.splits c.go_on.new.splits (map view_of c.nodes.area) (map view_of c.write_here.new.area) (map view_of c.go_on.new.area) c.in_ok-split.ensures.passed next

pub nodes-preserved : goal.nodes-preserved
nodes-preserved g c =
    let begun = map view_of c.args.area.now in
    let views = map view_of c.write_here.new.area in
    let wide = map view_of c.go_on.new.area in
    let wrote = c.in_ok-split.ensures in
    let split = c.in_ok-split.split in
    let next = subst (HasNext split c.nodes.splits c.go_on.new.splits views wide) c.in-Some.is c.in_ok-below.ensures.next in
    let stands = passed-stands c.args.walk.pair c.nodes.depth begun c.nodes.splits (map view_of c.nodes.area) views split wrote.passed c.nodes.invariant.stands in
    writes-on c.nodes.invariant wrote.walking wrote.named wrote.frame c.in_ok-below.ensures.fits (next-stands begun split c.nodes.splits c.go_on.new.splits views wide c.in-Some.below stands next)

-- ---- the end of the walk

pub back-requires-clause-within : goal.back-requires-clause-within
back-requires-clause-within g c =
    let begun = map view_of c.args.area.now in
    let views = map view_of c.write_here.new.area in
    let wide = map view_of c.go_on.new.area in
    let split = c.in_ok-split.split in
    let next = subst (HasNext split c.nodes.splits c.go_on.new.splits views wide) c.in-None.is c.in_ok-below.ensures.next in
    let stands = passed-stands c.args.walk.pair c.nodes.depth begun c.nodes.splits (map view_of c.nodes.area) views split c.in_ok-split.ensures.passed c.nodes.invariant.stands in
    mark-within begun wide wide c.mark-mark.result c.mark-mark.ensures (end-stands begun split c.nodes.splits c.go_on.new.splits views wide stands next) refl

pub returns-in-None-clause-as_before : goal.returns-in-None-clause-as_before
returns-in-None-clause-as_before g c =
    let begun = map view_of c.args.area.now in
    let views = map view_of c.write_here.new.area in
    let wide = map view_of c.go_on.new.area in
    let split = c.in_ok-split.split in
    let next = subst (HasNext split c.nodes.splits c.go_on.new.splits views wide) c.in-None.is c.in_ok-below.ensures.next in
    let stands = passed-stands c.args.walk.pair c.nodes.depth begun c.nodes.splits (map view_of c.nodes.area) views split c.in_ok-split.ensures.passed c.nodes.invariant.stands in
    back-there begun wide wide (map view_of c.back.new.area) c.mark-mark.result c.mark-mark.ensures (end-stands begun split c.nodes.splits c.go_on.new.splits views wide stands next) refl c.back.ensures.views

pub returns-in-None-clause-frame : goal.returns-in-None-clause-frame
returns-in-None-clause-frame g c = both-then c.nodes.invariant.named c.nodes.invariant.frame c.in_ok-split.ensures.frame

pub returns-in_err-split-clause-frame : goal.returns-in_err-split-clause-frame
returns-in_err-split-clause-frame g c = both-then c.nodes.invariant.named c.nodes.invariant.frame c.in_err-split.ensures.frame

pub returns-in_err-below-clause-frame : goal.returns-in_err-below-clause-frame
returns-in_err-below-clause-frame g c = both-then c.nodes.invariant.named c.nodes.invariant.frame c.in_ok-split.ensures.frame
