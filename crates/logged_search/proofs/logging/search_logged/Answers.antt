-- A log that is begun anew is first a log that was begun; and what cannot be searched is one empty box.
use Rattle.std.proofs.Common.{inl, inr, refl}
use Rattle.std.proofs.lemmas.Result.{IfOk-weaker}
use Rattle.branch_tree.proofs.Stopping.{at_err}
use Rattle.proof_log.specs.Writer.{writing}
use Rattle.plan_told.proofs.EmptyRoots.{empty-none}
use Rattle.logged_search.proofs.Both.{ok_all}
use Rattle.logged_search.proofs.EmptySearch.{not-open}
use Rattle.logged_search.proofs.LogsLeft.{kept-one, left-then, logged-as, logged-begun, writes-then}
use Rattle.logged_search.proofs.logging.search_logged.Goals as goal

pub returns-in_err-again-clause-err : goal.returns-in_err-again-clause-err
returns-in_err-again-clause-err g c =
    let most = c.args.sought.now.rules.most in
    let rows = c.args.sought.now.rows.now in
    let floors = c.args.sought.now.rules.floors in
    let head = c.args.head.now in
    let name = c.args.name.now in
    let mid = g.F.Shelf.files c.log_open.new.files in
    let new = g.F.Shelf.files c.log_open-2.new.files in
    let begun = logged-begun most rows floors head name (writing g.F.Shelf.files g.F.Shelf.read_faults g.F.Shelf.may_read g.F.Shelf.may_write c.in_ok-logged.logged.writer c.log_open.new.files) c.in_ok-logged.ensures.logged in
    at_err _ _ (inr (left-then most rows floors head name mid new begun c.in_err-again.ensures.err))

pub returns-clause-kept : goal.returns-clause-kept
returns-clause-kept g c =
    kept-one g.F.Shelf c.args.name.now c.args.files.now c.log_open-2.new.files
    (writes-then g.F.Shelf c.args.name.now c.args.name.now c.args.files.now c.log_open.new.files c.log_open-2.new.files refl c.log_open.ensures.frame c.log_open-2.ensures.frame)

pub returns-then-not-is_searchable-clause-kept : goal.returns-then-not-is_searchable-clause-kept
returns-then-not-is_searchable-clause-kept g c = kept-one g.F.Shelf c.args.name.now c.args.files.now c.log_empty.new.files c.log_empty.ensures.frame

pub returns-then-not-is_searchable-clause-err : goal.returns-then-not-is_searchable-clause-err
returns-then-not-is_searchable-clause-err g c = c.log_empty.ensures.err c.args.sought.now.rules.floors

pub log_open-requires-clause-can : goal.log_open-requires-clause-can
log_open-requires-clause-can g c = record { searchable = record { images = c.requires.images; program = c.is_searchable.ensures.0 c.if-not-is_searchable.false }; few = c.requires.budget }

pub log_open-requires-2-clause-can : goal.log_open-requires-2-clause-can
log_open-requires-2-clause-can g c = record { searchable = record { images = c.requires.images; program = c.is_searchable.ensures.0 c.if-not-is_searchable.false }; few = c.requires.budget }

pub log_empty-requires-clause-bare : goal.log_empty-requires-clause-bare
log_empty-requires-clause-bare g c = not-open c.args.sought.now.rules.most c.args.sought.now.rows.now.program c.is_searchable.result c.requires.splits c.is_searchable.ensures.1 c.if-not-is_searchable.true

pub returns-then-not-is_searchable-clause-logged : goal.returns-then-not-is_searchable-clause-logged
returns-then-not-is_searchable-clause-logged g c =
    IfOk-weaker c.log_empty.result _ _ (λ logged is. logged-as c.args.sought.now.rules.most c.args.sought.now.rows.now c.args.sought.now.rules.floors c.args.head.now c.args.name.now _ (λ tree empty. inr empty) is) (c.log_empty.ensures.logged c.args.sought.now.rules.floors)

pub returns-then-not-is_searchable-clause-begun : goal.returns-then-not-is_searchable-clause-begun
returns-then-not-is_searchable-clause-begun g c =
    let bare = not-open c.args.sought.now.rules.most c.args.sought.now.rows.now.program c.is_searchable.result c.requires.splits c.is_searchable.ensures.1 c.if-not-is_searchable.true in
    ok_all c.log_empty.result _ (λ logged lawful. (let image = c.requires.images c.args.sought.now.start.now lawful in absurd (empty-none c.args.sought.now.rows.now.program bare image.0 image.1.lawful.lies)))

pub returns-clause-logged : goal.returns-clause-logged
returns-clause-logged g c =
    let is = c.in_ok-again.ensures in
    logged-as c.args.sought.now.rules.most c.args.sought.now.rows.now c.args.sought.now.rules.floors c.args.head.now c.args.name.now _ (λ tree search. inl (record { search = search; exact = is.exact (is.unguided refl) })) is.logged
