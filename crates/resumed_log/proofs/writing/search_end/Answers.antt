-- What a search at an end has put, or has begun to put: all other files stay.
use Rattle.std.proofs.Common.{◌≡◌, ℕ, [], inl, inr, sym, subst, true, false}
use Rattle.proof_log.specs.Writer.{KeepsOthers, writing}
use Rattle.row_relax.specs.declared.rows.Rows.{Rows}
use Rattle.row_relax.specs.View.{Fits}
use Rattle.branch_tree.specs.Deep.{is_deep}
use Rattle.log_nodes.specs.laws.Seen.{seen}
use Rattle.resumed_log.specs.laws.Beside.{kept-none}
use Rattle.resumed_log.proofs.Puts.{stopped-took, wrote-one}
use Rattle.resumed_log.proofs.writing.search_end.Goals as goal

pub search-requires-clause-can : goal.search-requires-clause-can
search-requires-clause-can g c = (c.args.pair.most, (c.args.pair.rows.now, c.make_room.ensures.can c.args.pair.most c.args.pair.rows.now c.requires.can))

pub search-requires-clause-fits : goal.search-requires-clause-fits
search-requires-clause-fits g c =
    let can = c.make_room.ensures.can c.args.pair.most c.args.pair.rows.now c.requires.can in
    subst (λ (rows : Rows). Fits rows.program (seen c.args.area.now)) (sym can.over) c.requires.fits

pub search-requires-clause-deep : goal.search-requires-clause-deep
search-requires-clause-deep g c =
    let can = c.make_room.ensures.can c.args.pair.most c.args.pair.rows.now c.requires.can in
    subst (λ (most : ℕ). is_deep most c.args.depth (seen c.args.area.now) ≡ false) (sym can.limited) c.requires.deep

pub search-requires-clause-room : goal.search-requires-clause-room
search-requires-clause-room g c = c.make_room.ensures.left c.requires.left

pub returns-clause-can : goal.returns-clause-can
returns-clause-can g c = c.in_ok-cap.ensures.can c.args.pair.most c.args.pair.rows.now (c.make_room.ensures.can c.args.pair.most c.args.pair.rows.now c.requires.can)

pub returns-clause-named : goal.returns-clause-named
returns-clause-named g c =
    let at = writing g.F.Shelf.files g.F.Shelf.read_faults g.F.Shelf.may_read g.F.Shelf.may_write in
    let out = c.args.course.now.out in
    (c.in_ok-cap.ensures.handed.handed (record out { skips = true }) c.args.files.now [] (kept-none (at out.writer c.args.files.now))).name

pub returns-clause-frame : goal.returns-clause-frame
returns-clause-frame g c =
    let at = writing g.F.Shelf.files g.F.Shelf.read_faults g.F.Shelf.may_read g.F.Shelf.may_write in
    let out = c.args.course.now.out in
    wrote-one g.F.Shelf out.writer c.search.new.taker.writer c.args.files.now c.search.new.out
    (c.in_ok-cap.ensures.handed.handed (record out { skips = true }) c.args.files.now [] (kept-none (at out.writer c.args.files.now))) c.in_ok-cap.ensures.later

pub returns-in_err-cap-clause-named : goal.returns-in_err-cap-clause-named
returns-in_err-cap-clause-named g c =
    let at = writing g.F.Shelf.files g.F.Shelf.read_faults g.F.Shelf.may_read g.F.Shelf.may_write in
    let out = c.args.course.now.out in
    let keeps : KeepsOthers (at out.writer c.args.files.now) (at c.search.new.taker.writer c.search.new.out) =
    elim (stopped-took _ _ (record out { skips = true }) c.args.files.now _ _ _ c.in_err-cap.ensures.err.stopped (kept-none (at out.writer c.args.files.now))).1 [
      | inl took ↦ took
      | inr broke ↦ broke
    ] in
    keeps.name

pub returns-in_err-cap-clause-frame : goal.returns-in_err-cap-clause-frame
returns-in_err-cap-clause-frame g c =
    let at = writing g.F.Shelf.files g.F.Shelf.read_faults g.F.Shelf.may_read g.F.Shelf.may_write in
    let out = c.args.course.now.out in
    let keeps : KeepsOthers (at out.writer c.args.files.now) (at c.search.new.taker.writer c.search.new.out) =
    elim (stopped-took _ _ (record out { skips = true }) c.args.files.now _ _ _ c.in_err-cap.ensures.err.stopped (kept-none (at out.writer c.args.files.now))).1 [
      | inl took ↦ took
      | inr broke ↦ broke
    ] in
    wrote-one g.F.Shelf out.writer c.search.new.taker.writer c.args.files.now c.search.new.out keeps c.in_err-cap.ensures.later
