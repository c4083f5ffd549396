use Rattle.std.proofs.Common.{◌≡◌, ℕ, List, [], ◌∷◌, ◌++◌, string_bytes}
use Rattle.std.proofs.lemmas.Result.{on_err_weaker, on_ok_weaker}
use Rattle.log_lines.specs.declared.line.Line.TheVariants.{End}
use Rattle.row_relax.specs.RowProofs.{RowItem}
use Rattle.proof_log.specs.Log.{claim_lines, lines_text}
use Rattle.proof_log.specs.Writer.{Took, Broke}
use Rattle.proof_log.proofs.Writing.{rest_of, at, Took-held, Took-after, Took-renamed, Broke-held, Broke-after, Broke-renamed, OnErr-holds, OnOk-both, log_written, file_written}
use Rattle.proof_log.proofs.writer.LogWriter.finish.Goals as goal

pub returns-in_err-put_claim-clause-broke : goal.returns-in_err-put_claim-clause-broke
returns-in_err-put_claim-clause-broke g c =
    OnErr-holds c.from_residual.result
    (Broke-held (string_bytes c.args.self.name) c.args.self.buffer.items (lines_text (claim_lines c.args.claim.now ++ End ∷ [])) [] (g.F.Shelf.files c.args.files.now) (rest_of g.F.Shelf.read_faults g.F.Shelf.may_read g.F.Shelf.may_write c.args.files.now))

pub returns-clause-took : goal.returns-clause-took
returns-clause-took g c =
    let name = string_bytes c.args.self.name in
    let text = lines_text (claim_lines c.args.claim.now ++ End ∷ []) in
    let files = g.F.Shelf.files c.args.files.now in
    let rest = rest_of g.F.Shelf.read_faults g.F.Shelf.may_read g.F.Shelf.may_write c.args.files.now in
    let new = g.F.Shelf.files c.flush.new.files in
    let after = rest_of g.F.Shelf.read_faults g.F.Shelf.may_read g.F.Shelf.may_write c.flush.new.files in
    let middle = at name c.put_claim.new.into.items files rest in
    let last = at (string_bytes c.flush.new.self.name) c.flush.new.self.buffer.items new after in
    let first = at name c.args.self.buffer.items files rest in
    let held = Took-held name c.args.self.buffer.items text c.put_claim.new.into.items files rest c.in_ok-put_claim.ensures.ok in
    OnOk-both c.flush.result
    (λ (took : Took middle last []) (none : c.flush.new.self.buffer.items ≡ []). Took-renamed first name last.name last.held text new after c.flush.ensures.name none (Took-after first middle last text held took))
    c.flush.ensures.took c.flush.ensures.held

pub returns-clause-broke : goal.returns-clause-broke
returns-clause-broke g c =
    let name = string_bytes c.args.self.name in
    let text = lines_text (claim_lines c.args.claim.now ++ End ∷ []) in
    let files = g.F.Shelf.files c.args.files.now in
    let rest = rest_of g.F.Shelf.read_faults g.F.Shelf.may_read g.F.Shelf.may_write c.args.files.now in
    let new = g.F.Shelf.files c.flush.new.files in
    let after = rest_of g.F.Shelf.read_faults g.F.Shelf.may_read g.F.Shelf.may_write c.flush.new.files in
    let middle = at name c.put_claim.new.into.items files rest in
    let last = at (string_bytes c.flush.new.self.name) c.flush.new.self.buffer.items new after in
    let first = at name c.args.self.buffer.items files rest in
    let held = Took-held name c.args.self.buffer.items text c.put_claim.new.into.items files rest c.in_ok-put_claim.ensures.ok in
    on_err_weaker c.flush.result
    (λ (broke : Broke middle last []). Broke-renamed first name last.name last.held [] text new after c.flush.ensures.name (Broke-after first middle last text held broke))
    c.flush.ensures.broke

pub returns-clause-log : goal.returns-clause-log
returns-clause-log g c =
    let name = string_bytes c.args.self.name in
    let files = g.F.Shelf.files c.args.files.now in
    let new = g.F.Shelf.files c.flush.new.files in
    on_ok_weaker c.flush.result
    (λ took (items : List RowItem) is. log_written name c.args.self.buffer.items files new (rest_of g.F.Shelf.read_faults g.F.Shelf.may_read g.F.Shelf.may_write c.args.files.now) (rest_of g.F.Shelf.read_faults g.F.Shelf.may_read g.F.Shelf.may_write c.flush.new.files) items c.args.claim.now took is)
    (returns-clause-took g c)

pub returns-clause-file : goal.returns-clause-file
returns-clause-file g c =
    let name = string_bytes c.args.self.name in
    let files = g.F.Shelf.files c.args.files.now in
    let new = g.F.Shelf.files c.flush.new.files in
    on_ok_weaker c.flush.result
    (λ took (text : List ℕ) (items : List RowItem) is. file_written name c.args.self.buffer.items text files new (rest_of g.F.Shelf.read_faults g.F.Shelf.may_read g.F.Shelf.may_write c.args.files.now) (rest_of g.F.Shelf.read_faults g.F.Shelf.may_read g.F.Shelf.may_write c.flush.new.files) items c.args.claim.now took is)
    (returns-clause-took g c)
