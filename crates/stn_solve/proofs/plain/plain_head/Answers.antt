-- The text of one line.
use Rattle.std.proofs.Common.{List, ℕ, [], ◌∷◌, ◌++◌, ap, sym, ◌∙◌}
use Rattle.log_lines.specs.declared.line.Line.TheVariants.{Header}
use Rattle.log_lines.specs.Line.{line_text}
use Rattle.proof_log.proofs.Lines.{lines_text-one}
use Rattle.stn_solve.proofs.plain.plain_head.Goals as goal

pub returns : goal.returns
returns c = c.in_ok-put_line.ensures.ok ∙ ap (λ (x : List ℕ). x ++ (line_text (Header 2) ++ (10 ∷ []))) c.new-head.ensures.items ∙ sym (lines_text-one (Header 2))
