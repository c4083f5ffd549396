-- The head that is held back is the first line.
use Rattle.std.proofs.Common.{◌≡◌, List, ℕ, [], ◌∷◌, ◌++◌, IfOk, ap, sym, ◌∙◌, subst}
use Rattle.log_lines.specs.declared.line.Line.TheVariants.{Header}
use Rattle.log_lines.specs.Line.{line_text}
use Rattle.proof_log.specs.Log.{lines_text}
use Rattle.proof_log.specs.Writer.{writing, IsWhole}
use Rattle.proof_log.proofs.Lines.{lines_text-one}
use Rattle.proof_log.proofs.writer.LogWriter.begin.Goals as goal

pub returns-clause-header : goal.returns-clause-header
returns-clause-header g c =
    let line : c.as_slice.result.now ≡ lines_text (Header 2 ∷ []) =
    c.as_slice.ensures.value ∙ c.in_ok-put_line.ensures.ok ∙ ap (λ (x : List ℕ). x ++ (line_text (Header 2) ++ (10 ∷ []))) c.new-line.ensures.items ∙ sym (lines_text-one (Header 2)) in
    subst (λ (text : List ℕ). IfOk c.begin_with.result (λ writer. writer.buffer.items ≡ text)) line c.begin_with.ensures.header

pub returns-clause-whole : goal.returns-clause-whole
returns-clause-whole g c =
    let line : c.as_slice.result.now ≡ lines_text (Header 2 ∷ []) =
    c.as_slice.ensures.value ∙ c.in_ok-put_line.ensures.ok ∙ ap (λ (x : List ℕ). x ++ (line_text (Header 2) ++ (10 ∷ []))) c.new-line.ensures.items ∙ sym (lines_text-one (Header 2)) in
    subst (λ (text : List ℕ). IfOk c.begin_with.result (λ writer. IsWhole (writing g.F.Shelf.files g.F.Shelf.read_faults g.F.Shelf.may_read g.F.Shelf.may_write writer c.begin_with.new.files) text)) line c.begin_with.ensures.whole
