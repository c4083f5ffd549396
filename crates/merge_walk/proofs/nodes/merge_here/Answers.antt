-- The nodes of all logs were looked at, and what is merged of them is written.
use Rattle.std.proofs.Common.{◌≡◌, ℕ, Bool, List, map, Option, refl, sym, subst, rules}
use Rattle.std.specs.Prelude.{IfOk, IfSome, IsTrue}
use Rattle.stn_edge.specs.Files.{FileMap}
use Rattle.proof_tree.specs.Views.{View, present}
use Rattle.row_relax.specs.View.{Fits, view_of}
use Rattle.log_nodes.specs.laws.Seen.{seen}
use Rattle.log_nodes.proofs.Readings.{ok_some_then}
use Rattle.log_parts.specs.laws.Copying.{name_of}
use Rattle.merged_nodes.specs.declared.looking.Looked.{Looked}
use Rattle.merged_nodes.specs.laws.Looked.{AreApart, AreReading, HasLooked, MayReadAll}
use Rattle.log_parts.proofs.Frames.{also-writes, both-then}
use Rattle.merge_walk.specs.laws.Opened.{GoesOnMerging, HasWritten}
use Rattle.merge_walk.proofs.KeptLogs.{same-apart, same-may-read, same-stood, same-then}
use Rattle.merge_walk.proofs.nodes.merge_here.Goals as goal

pub merge_looked-requires : goal.merge_looked-requires
merge_looked-requires g c =
    let rows = c.args.merging.rows.now in
    let stem = c.args.merging.stem.now in
    let told = g.F.Shelf.files c.args.files.now in
    let now = g.F.Shelf.files c.look.new.files in
    let out = name_of c.args.writer.now in
    let before = c.args.sources.now.items in
    let after = c.look.new.sources.items in
    let look = c.in_ok-looked.ensures in
    let has = subst (λ (o : Option Looked). IfSome o (HasLooked rows (seen c.args.area.now) told stem c.args.depth before after)) c.in-Some.is look.looked in
    let views = subst (λ (o : Option Looked). IfSome o (λ _. map view_of c.look.new.area ≡ map view_of c.args.area.now)) c.in-Some.is look.as_before in
    let read = subst (λ (o : Option Looked). IfSome o (λ _. AreReading told stem after)) c.in-Some.is look.reading in
    let same = same-stood told stem c.args.depth before after has.stands has.stood in
    let may_read : MayReadAll (g.F.Shelf.may_read c.look.new.files) stem after = same-may-read (g.F.Shelf.may_read c.args.files.now) (g.F.Shelf.may_read c.look.new.files) stem before after look.frame.readable same c.requires.may_read in
    let may_write : IsTrue (g.F.Shelf.may_write c.look.new.files out) = subst (λ (may : List ℕ → Bool). IsTrue (may out)) (sym look.frame.writable) c.requires.may_write in
    let apart : AreApart out stem after = same-apart out out stem before after refl same c.requires.apart in
    let reading : AreReading now stem after = subst (λ (files : Option FileMap). AreReading files stem after) (sym look.frame.same) read in
    let fits : Fits rows.program (seen c.look.new.area) = subst (λ (all : List View). Fits rows.program (present all)) (sym views) c.requires.fits in
    search rules

pub returns-clause-written : goal.returns-clause-written
returns-clause-written g c =
    let rows = c.args.merging.rows.now in
    let best = c.args.merging.best in
    let stem = c.args.merging.stem.now in
    let told = g.F.Shelf.files c.args.files.now in
    let now = g.F.Shelf.files c.look.new.files in
    let new' = g.F.Shelf.files c.merge_looked.new.files in
    let depth = c.args.depth in
    let before = c.args.sources.now.items in
    let middle = c.look.new.sources.items in
    let after = c.merge_looked.new.sources.items in
    let writer = c.args.writer.now in
    let later = c.merge_looked.new.writer in
    let narrow = map view_of c.merge_looked.new.area in
    let look = c.in_ok-looked.ensures in
    let has = subst (λ (o : Option Looked). IfSome o (HasLooked rows (seen c.args.area.now) told stem depth before middle)) c.in-Some.is look.looked in
    let views = subst (λ (o : Option Looked). IfSome o (λ _. map view_of c.look.new.area ≡ map view_of c.args.area.now)) c.in-Some.is look.as_before in
    let own : HasLooked rows (seen c.look.new.area) now stem depth before middle c.in-Some.looked =
    subst (λ (all : List View). HasLooked rows (present all) now stem depth before middle c.in-Some.looked) (sym views)
    (subst (λ (files : Option FileMap). HasLooked rows (seen c.args.area.now) files stem depth before middle c.in-Some.looked) (sym look.frame.same) has) in
    subst (λ (all : List View). IfOk c.merge_looked.result (λ written. IfSome written (HasWritten rows best all narrow told new' stem depth before after writer later))) views
    (subst (λ (files : Option FileMap). IfOk c.merge_looked.result (λ written. IfSome written (HasWritten rows best (map view_of c.look.new.area) narrow files new' stem depth before after writer later))) look.frame.same
    (c.merge_looked.ensures.written before own))

pub returns-clause-on : goal.returns-clause-on
returns-clause-on g c =
    let told = g.F.Shelf.files c.args.files.now in
    let before = c.args.sources.now.items in
    let middle = c.look.new.sources.items in
    let after = c.merge_looked.new.sources.items in
    let new' = g.F.Shelf.files c.merge_looked.new.files in
    let area = c.merge_looked.new.area in
    let has = subst (λ (o : Option Looked). IfSome o (HasLooked c.args.merging.rows.now (seen c.args.area.now) told c.args.merging.stem.now c.args.depth before middle)) c.in-Some.is c.in_ok-looked.ensures.looked in
    ok_some_then c.merge_looked.result (λ _. GoesOnMerging c.args.merging new' middle after area) (λ _. GoesOnMerging c.args.merging new' before after area)
    (λ written on. record {
      same = same-then before middle after (same-stood told c.args.merging.stem.now c.args.depth before middle has.stands has.stood) on.same;
      reading = on.reading;
      fits = on.fits;
    }) c.merge_looked.ensures.on

pub returns-clause-frame : goal.returns-clause-frame
returns-clause-frame g c =
    let out = name_of c.args.writer.now in
    both-then g.F.Shelf out out c.args.files.now c.look.new.files c.merge_looked.new.files refl (also-writes g.F.Shelf out c.args.files.now c.look.new.files c.in_ok-looked.ensures.frame) c.merge_looked.ensures.frame
