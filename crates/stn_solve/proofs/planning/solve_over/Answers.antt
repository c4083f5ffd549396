-- What the search ended with is told, and its log is the text of the proof with the claim.
use Rattle.std.proofs.Common.{ℕ, true, List, [], ◌∷◌, ◌++◌, IfSome, ap, ap₂, sym, ◌∙◌, subst, inr, flat_map}
use Rattle.branch_tree.proofs.Stopping.{at_err}
use Rattle.stn_model.specs.Points.{depth_limit}
use Rattle.proof_tree.specs.Items.{tree_items}
use Rattle.row_relax.specs.Choices.{choices_of}
use Rattle.branch_tree.specs.Searched.{IsWorth}
use Rattle.log_lines.specs.declared.line.Line.TheVariants.{End}
use Rattle.proof_log.specs.declared.claim.Claim.{Claim}
use Rattle.proof_log.specs.Log.{claim_lines, item_lines, lines_text}
use Rattle.proof_log.specs.Writer.{writing}
use Rattle.sum_slots.specs.declared.sum.Sum.{Sum}
use Rattle.valid_log.specs.SumTexts.{larger_claim}
use Rattle.plan_told.specs.Claims.{HaveBytes, IfPoint}
use Rattle.plan_told.specs.Proofs.{bytes_in}
use Rattle.logged_search.specs.Logging.{HasFewSplits, IsBegun, LeavesBegun}
use Rattle.logged_search.proofs.LogsLeft.{logged-begun, logged-broke, logged-whole, told-bytes, writes-kept}
use Rattle.stn_solve.proofs.Frames.{finished}
use Rattle.stn_solve.proofs.Limited.{left-at, logged-at}
use Rattle.stn_solve.proofs.planning.solve_over.Goals as goal

pub search_logged-requires-clause-splits : goal.search_logged-requires-clause-splits
search_logged-requires-clause-splits g c = subst (λ (n : ℕ). HasFewSplits n c.args.begun.headed.rows.program) (sym c.depth_limit.ensures) c.requires.can.splits

pub told_larger-requires-clause-can : goal.told_larger-requires-clause-can
told_larger-requires-clause-can g c = record {
  sound = c.requires.can.sound;
  places = (let logged = logged-at c.depth_limit.result (depth_limit c.args.plant.now) c.args.begun.headed.rows true c.args.begun.headed.given c.args.budget c.in_ok-ended.field-0.ended _ c.args.name.now _ c.depth_limit.ensures c.in_ok-ended.ensures.logged in c.requires.can.told.places c.in_ok-ended.field-0.ended logged.tree logged.is);
}

pub told_larger-requires-clause-bytes : goal.told_larger-requires-clause-bytes
told_larger-requires-clause-bytes g c = λ told says.
    let logged = logged-at c.depth_limit.result (depth_limit c.args.plant.now) c.args.begun.headed.rows true c.args.begun.headed.given c.args.budget c.in_ok-ended.field-0.ended _ c.args.name.now _ c.depth_limit.ensures c.in_ok-ended.ensures.logged in
    subst (λ (sums : List Sum). IfPoint told.claim (HaveBytes sums)) (sym c.as_slice-sums.ensures) (c.requires.can.told.bytes c.in_ok-ended.field-0.ended logged.tree told logged.is says)

pub returns-in_err-ended-clause-err : goal.returns-in_err-ended-clause-err
returns-in_err-ended-clause-err g c =
    at_err _ _ (subst (λ (h : List ℕ). LeavesBegun (depth_limit c.args.plant.now) c.args.begun.headed.rows true h c.args.name.now (g.F.Shelf.files c.args.files.now) (g.F.Shelf.files c.search_logged.new.files)) c.as_slice-head.ensures.value (left-at c.depth_limit.result (depth_limit c.args.plant.now) c.args.begun.headed.rows true _ c.args.name.now _ _ c.depth_limit.ensures c.in_err-ended.ensures.err))

pub returns-in_err-told-clause-err : goal.returns-in_err-told-clause-err
returns-in_err-told-clause-err g c =
    let begun = logged-begun (depth_limit c.args.plant.now) c.args.begun.headed.rows true c.as_slice-head.result.now c.args.name.now _ (logged-at c.depth_limit.result (depth_limit c.args.plant.now) c.args.begun.headed.rows true c.args.begun.headed.given c.args.budget c.in_ok-ended.field-0.ended _ c.args.name.now _ c.depth_limit.ensures c.in_ok-ended.ensures.logged) in
    at_err _ _ (inr (subst (λ (h : List ℕ). IfSome (bytes_in c.args.name.now (g.F.Shelf.files c.search_logged.new.files)) (IsBegun (depth_limit c.args.plant.now) c.args.begun.headed.rows true h)) c.as_slice-head.ensures.value begun))

pub returns-in_err-finish-clause-err : goal.returns-in_err-finish-clause-err
returns-in_err-finish-clause-err g c =
    let begun = logged-broke (depth_limit c.args.plant.now) c.args.begun.headed.rows true c.as_slice-head.result.now c.args.name.now _ _ c.in_ok-told.told.claim (logged-at c.depth_limit.result (depth_limit c.args.plant.now) c.args.begun.headed.rows true c.args.begun.headed.given c.args.budget c.in_ok-ended.field-0.ended _ c.args.name.now _ c.depth_limit.ensures c.in_ok-ended.ensures.logged) c.in_err-finish.ensures.broke in
    at_err _ _ (inr (subst (λ (h : List ℕ). IfSome (bytes_in c.args.name.now (g.F.Shelf.files c.finish.new.files)) (IsBegun (depth_limit c.args.plant.now) c.args.begun.headed.rows true h)) c.as_slice-head.ensures.value begun))

pub returns-clause-told : goal.returns-clause-told
returns-clause-told g c =
    let logged = logged-at c.depth_limit.result (depth_limit c.args.plant.now) c.args.begun.headed.rows true c.args.begun.headed.given c.args.budget c.in_ok-ended.field-0.ended _ c.args.name.now _ c.depth_limit.ensures c.in_ok-ended.ensures.logged in
    let larger = c.in_ok-told.ensures in
    let items = tree_items logged.tree in
    let at = writing g.F.Shelf.files g.F.Shelf.read_faults g.F.Shelf.may_read g.F.Shelf.may_write c.in_ok-ended.field-0.writer c.search_logged.new.files in
    let whole = logged-whole (depth_limit c.args.plant.now) c.args.begun.headed.rows true _ c.args.name.now at logged in
    let text = ap₂ (λ (head : List ℕ) (claim : Claim). head ++ lines_text (flat_map item_lines items ++ (claim_lines claim ++ End ∷ []))) c.as_slice-head.ensures.value (larger.claim ∙ ap (λ (sums : List Sum). larger_claim sums larger.own.claim) c.as_slice-sums.ensures) in
    record {
      ended = c.in_ok-ended.field-0.ended;
      tree = logged.tree;
      of = logged.is;
      begun = subst (λ (point : List ℕ). IsWorth (choices_of c.args.begun.headed.rows) point c.in_ok-ended.field-0.ended.best) c.as_slice-start.ensures c.in_ok-ended.ensures.begun;
      told = larger.own;
      tells = larger.told;
      outcome_is = larger.outcome;
      text = told-bytes c.args.name.now at.name (g.F.Shelf.files c.finish.new.files) _ _ logged.named text (c.in_ok-finish.ensures.file _ items whole);
    }

pub returns-in_err-ended-clause-frame : goal.returns-in_err-ended-clause-frame
returns-in_err-ended-clause-frame g c = writes-kept g.F.Shelf c.args.name.now c.args.files.now c.search_logged.new.files c.in_err-ended.ensures.kept c.in_err-ended.ensures.later

pub returns-in_err-told-clause-frame : goal.returns-in_err-told-clause-frame
returns-in_err-told-clause-frame g c = writes-kept g.F.Shelf c.args.name.now c.args.files.now c.search_logged.new.files c.in_ok-ended.ensures.kept c.in_ok-ended.ensures.later

pub returns-in_err-finish-clause-frame : goal.returns-in_err-finish-clause-frame
returns-in_err-finish-clause-frame g c =
    let is = c.in_ok-ended.ensures in
    finished g.F.Shelf c.args.name.now c.in_ok-ended.field-0.writer c.args.files.now c.search_logged.new.files c.finish.new.files is.logged.named is.kept is.later c.in_err-finish.ensures.broke.keeps c.in_err-finish.ensures.later

pub returns-clause-frame : goal.returns-clause-frame
returns-clause-frame g c =
    let is = c.in_ok-ended.ensures in
    finished g.F.Shelf c.args.name.now c.in_ok-ended.field-0.writer c.args.files.now c.search_logged.new.files c.finish.new.files is.logged.named is.kept is.later c.in_ok-finish.ensures.took.keeps c.in_ok-finish.ensures.later
