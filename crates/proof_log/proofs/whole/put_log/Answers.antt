use Rattle.std.proofs.Common.{◌≡◌, List, ℕ, [], ◌∷◌, ◌++◌, flat_map, ap, ◌∙◌, arith}
use Rattle.std.proofs.lemmas.Grind.{common_steps}
use Rattle.log_lines.specs.declared.line.Line.TheVariants.{Header, End}
use Rattle.proof_tree.specs.Items.{tree_items}
use Rattle.proof_tree.specs.Tree.{tree_of}
use Rattle.proof_log.specs.Log.{item_lines, claim_lines, lines_text, log_text}
use Rattle.proof_log.proofs.Lines.{log_text-parts}
use Rattle.proof_log.proofs.whole.put_log.Goals as goal

pub returns-clause-ok : goal.returns-clause-ok
returns-clause-ok c =
    let log = c.args.log.now in
    let items = tree_items (tree_of log.tree) in
    let rest = lines_text (claim_lines log.claim ++ End ∷ []) in
    let proof = c.in_ok-append_proof.ensures ∙ ap (λ (bytes : List ℕ). bytes ++ lines_text (Header log.version ∷ flat_map item_lines items)) c.new-lines.ensures.items in
    let text : c.as_slice.result.now ≡ log_text log.version items log.claim = c.as_slice.ensures.value ∙ c.in_ok-append_rest.ensures ∙ ap (λ (bytes : List ℕ). bytes ++ rest) proof ∙ log_text-parts log.version items log.claim in
    grind (arith, common_steps, text, c.extend_from_slice.ensures.items)
