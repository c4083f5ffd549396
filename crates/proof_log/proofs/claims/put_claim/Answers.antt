use Rattle.std.proofs.Common.{List, ℕ, [], ◌∷◌, ◌++◌, ap, ◌∙◌}
use Rattle.log_lines.specs.declared.line.Line.TheVariants.{End}
use Rattle.proof_log.specs.Log.{claim_lines, lines_text}
use Rattle.proof_log.proofs.Lines.{log_text-extended}
use Rattle.proof_log.proofs.claims.put_claim.Goals as goal

pub returns-clause-log : goal.returns-clause-log
returns-clause-log c =
    let text = lines_text (claim_lines c.args.claim.now ++ End ∷ []) in
    log_text-extended c.extend_from_slice.result c.args.into.now.items c.extend_from_slice.new.self.items c.as_slice.result.now c.args.claim.now c.extend_from_slice.ensures.items
    (c.as_slice.ensures.value ∙ c.in_ok-append_rest.ensures ∙ ap (λ (bytes : List ℕ). bytes ++ text) c.new-lines.ensures.items)
