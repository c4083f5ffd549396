-- The text that was written is that of the log.
use Rattle.std.proofs.Common.{◌≡◌, List, ℕ, ◌++◌, ap, ◌∙◌, subst, IfOk}
use Rattle.proof_tree.specs.Items.{tree_items}
use Rattle.proof_tree.specs.Tree.{tree_of}
use Rattle.proof_log.specs.Log.{log_text}
use Rattle.valid_log.specs.Verdict.{IsVerdict}
use Rattle.log_check.proofs.OwnLog.{log_meant}
use Rattle.log_check.proofs.log.check_log.Goals as goal

pub returns-clause-meant : goal.returns-clause-meant
returns-clause-meant c over none =
    let rows = c.args.rows.now in
    let log = c.args.log.now in
    let text : List ℕ = log_text log.version (tree_items (tree_of log.tree)) log.claim in
    let written : c.as_slice.result.now ≡ text = c.as_slice.ensures.value ∙ (c.in_ok-put_log.ensures.ok ∙ ap (λ xs. xs ++ text) c.new-text.ensures.items) in
    log_meant rows log.version (tree_of log.tree) log.claim over c.args.depth c.check_bytes.result none
    (subst (λ bytes. IfOk c.check_bytes.result (IsVerdict rows c.args.depth bytes)) written c.check_bytes.ensures.verdict)
