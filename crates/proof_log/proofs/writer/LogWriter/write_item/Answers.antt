use Rattle.std.proofs.Common.{string_bytes}
use Rattle.proof_log.specs.Log.{item_lines, lines_text}
use Rattle.proof_log.proofs.Writing.{rest_of, Broke-held, OnErr-holds}
use Rattle.proof_log.proofs.writer.LogWriter.write_item.Goals as goal

pub returns-in_err-put_item-clause-broke : goal.returns-in_err-put_item-clause-broke
returns-in_err-put_item-clause-broke g c =
    OnErr-holds c.from_residual.result
    (Broke-held (string_bytes c.args.self.now.name) c.args.self.now.buffer.items (lines_text (item_lines c.args.item.now)) c.put_item.new.into.items (g.F.Shelf.files c.args.files.now) (rest_of g.F.Shelf.read_faults g.F.Shelf.may_read g.F.Shelf.may_write c.args.files.now))
