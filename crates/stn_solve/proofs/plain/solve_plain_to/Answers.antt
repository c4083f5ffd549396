-- What is told of a search is right, and its log is the text of the proof with the claim.
use Rattle.std.proofs.Common.{ℕ, false, List, [], ◌∷◌, ◌++◌, ap, ◌∙◌, inr, flat_map}
use Rattle.branch_tree.proofs.Stopping.{at_err}
use Rattle.stn_model.specs.Points.{depth_limit}
use Rattle.proof_tree.specs.Items.{tree_items}
use Rattle.log_lines.specs.declared.line.Line.TheVariants.{End}
use Rattle.proof_log.specs.Log.{claim_lines, item_lines, lines_text, log_text}
use Rattle.proof_log.specs.Writer.{writing}
use Rattle.row_relax.proofs.Choosing.{plain-images}
use Rattle.plan_told.proofs.Texts.{plain-has}
use Rattle.logged_search.proofs.LogsLeft.{logged-begun, logged-broke, logged-whole, plain-left, plain-text, plain-told, told-bytes, writes-kept, writes-none}
use Rattle.stn_solve.proofs.BegunTold.{told-earns, worth-plain}
use Rattle.stn_solve.proofs.SearchTold.{plain-places, plain-right, plain-search}
use Rattle.stn_solve.proofs.Frames.{finished}
use Rattle.stn_solve.proofs.Limited.{left-at, logged-at}
use Rattle.stn_solve.proofs.Searchable.{part-searchable}
use Rattle.stn_solve.proofs.plain.solve_plain_to.Goals as goal

pub search_logged-requires-clause-images : goal.search_logged-requires-clause-images
search_logged-requires-clause-images g c = plain-images c.args.rows.now c.requires.plain

pub search_logged-requires-clause-splits : goal.search_logged-requires-clause-splits
search_logged-requires-clause-splits g c = (part-searchable c.args.plant.now c.args.rows.now.program c.depth_limit.result c.depth_limit.ensures c.requires.sound c.requires.part).few_splits

pub told_of-requires-clause-places : goal.told_of-requires-clause-places
told_of-requires-clause-places g c =
    let logged = c.in_ok-ended.ensures.logged in
    plain-places c.args.plant.now c.args.rows.now.program c.depth_limit.result c.slot_count-given.result c.args.budget logged.tree c.in_ok-ended.field-0.ended c.requires.sound c.requires.part c.depth_limit.ensures c.slot_count-given.ensures
    (plain-search c.depth_limit.result c.args.plant.now c.args.rows.now c.slot_count-given.result c.args.budget c.in_ok-ended.field-0.ended logged.tree c.requires.plain c.requires.part logged.is)

pub returns-in_err-ended-clause-err : goal.returns-in_err-ended-clause-err
returns-in_err-ended-clause-err g c = λ judged levels none. at_err _ _ (plain-left c.args.plant.now c.args.rows.now judged levels _ c.args.name.now c.requires.plain none (c.as_slice.ensures.value ∙ c.in_ok-head.ensures) _ _ (left-at c.depth_limit.result (depth_limit c.args.plant.now) c.args.rows.now false _ c.args.name.now _ _ c.depth_limit.ensures c.in_err-ended.ensures.err))

pub returns-in_err-told-clause-err : goal.returns-in_err-told-clause-err
returns-in_err-told-clause-err g c = λ judged levels none.
    at_err _ _ (inr (plain-told c.args.plant.now c.args.rows.now judged levels _ c.args.name.now c.requires.plain none (c.as_slice.ensures.value ∙ c.in_ok-head.ensures) _ (logged-begun (depth_limit c.args.plant.now) c.args.rows.now false _ c.args.name.now _ (logged-at c.depth_limit.result (depth_limit c.args.plant.now) c.args.rows.now false c.slot_count-given.result c.args.budget c.in_ok-ended.field-0.ended _ c.args.name.now _ c.depth_limit.ensures c.in_ok-ended.ensures.logged))))

pub returns-in_err-finish-clause-err : goal.returns-in_err-finish-clause-err
returns-in_err-finish-clause-err g c = λ judged levels none.
    at_err _ _ (inr (plain-told c.args.plant.now c.args.rows.now judged levels _ c.args.name.now c.requires.plain none (c.as_slice.ensures.value ∙ c.in_ok-head.ensures) _
    (logged-broke (depth_limit c.args.plant.now) c.args.rows.now false _ c.args.name.now _ _ c.in_ok-told.told.claim (logged-at c.depth_limit.result (depth_limit c.args.plant.now) c.args.rows.now false c.slot_count-given.result c.args.budget c.in_ok-ended.field-0.ended _ c.args.name.now _ c.depth_limit.ensures c.in_ok-ended.ensures.logged) c.in_err-finish.ensures.broke)))

pub returns-clause-outcome : goal.returns-clause-outcome
returns-clause-outcome g c =
    let logged = c.in_ok-ended.ensures.logged in
    (plain-right c.args.plant.now c.args.rows.now.program c.depth_limit.result c.slot_count-given.result c.args.budget logged.tree c.in_ok-ended.field-0.ended c.requires.sound c.requires.part c.depth_limit.ensures c.slot_count-given.ensures
    (plain-search c.depth_limit.result c.args.plant.now c.args.rows.now c.slot_count-given.result c.args.budget c.in_ok-ended.field-0.ended logged.tree c.requires.plain c.requires.part logged.is) c.in_ok-told.told c.in_ok-told.ensures).outcome

pub returns-clause-proof : goal.returns-clause-proof
returns-clause-proof g c = λ judged levels none.
    let logged = c.in_ok-ended.ensures.logged in
    let part = c.args.rows.now.program in
    let items = tree_items logged.tree in
    let told = c.in_ok-told.told in
    let at = writing g.F.Shelf.files g.F.Shelf.read_faults g.F.Shelf.may_read g.F.Shelf.may_write c.in_ok-ended.field-0.writer c.search_logged.new.files in
    let right = plain-right c.args.plant.now part c.depth_limit.result c.slot_count-given.result c.args.budget logged.tree c.in_ok-ended.field-0.ended c.requires.sound c.requires.part c.depth_limit.ensures c.slot_count-given.ensures
    (plain-search c.depth_limit.result c.args.plant.now c.args.rows.now c.slot_count-given.result c.args.budget c.in_ok-ended.field-0.ended logged.tree c.requires.plain c.requires.part logged.is) told c.in_ok-told.ensures in
    let whole = logged-whole c.depth_limit.result c.args.rows.now false _ c.args.name.now at logged in
    plain-has c.args.plant.now part judged levels _ told.outcome logged.tree none right.proof
    (told-bytes c.args.name.now at.name (g.F.Shelf.files c.finish.new.files) _ _ logged.named (ap (λ (head : List ℕ). head ++ lines_text (flat_map item_lines items ++ (claim_lines told.claim ++ End ∷ []))) (c.as_slice.ensures.value ∙ c.in_ok-head.ensures) ∙ plain-text items told.claim ∙ ap (log_text 2 items) right.claim) (c.in_ok-finish.ensures.file _ items whole))

pub returns-clause-begun : goal.returns-clause-begun
returns-clause-begun g c = told-earns c.args.plant.now c.args.rows.now.program c.args.start.now c.in_ok-ended.field-0.ended c.in_ok-told.told (worth-plain c.args.rows.now c.args.start.now c.in_ok-ended.field-0.ended.best c.requires.plain c.in_ok-ended.ensures.begun) c.in_ok-told.ensures

pub returns-in_err-head-clause-frame : goal.returns-in_err-head-clause-frame
returns-in_err-head-clause-frame g c = writes-none g.F.Shelf c.args.name.now c.args.files.now

pub returns-in_err-ended-clause-frame : goal.returns-in_err-ended-clause-frame
returns-in_err-ended-clause-frame g c = writes-kept g.F.Shelf c.args.name.now c.args.files.now c.search_logged.new.files c.in_err-ended.ensures.kept c.in_err-ended.ensures.later

pub returns-in_err-told-clause-frame : goal.returns-in_err-told-clause-frame
returns-in_err-told-clause-frame g c = writes-kept g.F.Shelf c.args.name.now c.args.files.now c.search_logged.new.files c.in_ok-ended.ensures.kept c.in_ok-ended.ensures.later

pub returns-in_err-finish-clause-frame : goal.returns-in_err-finish-clause-frame
returns-in_err-finish-clause-frame g c =
    let is = c.in_ok-ended.ensures in
    finished g.F.Shelf c.args.name.now c.in_ok-ended.field-0.writer c.args.files.now c.search_logged.new.files c.finish.new.files is.logged.named is.kept is.later c.in_err-finish.ensures.broke.keeps c.in_err-finish.ensures.later

pub returns-clause-frame : goal.returns-clause-frame
returns-clause-frame g c =
    let is = c.in_ok-ended.ensures in
    finished g.F.Shelf c.args.name.now c.in_ok-ended.field-0.writer c.args.files.now c.search_logged.new.files c.finish.new.files is.logged.named is.kept is.later c.in_ok-finish.ensures.took.keeps c.in_ok-finish.ensures.later
