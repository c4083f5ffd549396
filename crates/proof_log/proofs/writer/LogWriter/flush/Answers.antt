use Rattle.std.proofs.Common.{string_bytes}
use Rattle.proof_log.proofs.Writing.{rest_of, same_rest, Took-append, Broke-append, OnErr-holds}
use Rattle.proof_log.proofs.writer.LogWriter.flush.Goals as goal

pub returns-in_err-append-clause-broke : goal.returns-in_err-append-clause-broke
returns-in_err-append-clause-broke g c =
    OnErr-holds c.from_residual.result
    (Broke-append (string_bytes c.args.self.now.name) c.args.self.now.buffer.items _ _ _ (g.F.Shelf.files c.args.files.now) (g.F.Shelf.files c.append.new.self) (rest_of g.F.Shelf.read_faults g.F.Shelf.may_read g.F.Shelf.may_write c.args.files.now) (rest_of g.F.Shelf.read_faults g.F.Shelf.may_read g.F.Shelf.may_write c.append.new.self)
    c.as_str.ensures.value c.as_slice.ensures.value (same_rest _ _ c.in_err-append.ensures.no_read c.in_err-append.ensures.readable c.in_err-append.ensures.writable) c.in_err-append.ensures.err)

pub returns-clause-took : goal.returns-clause-took
returns-clause-took g c =
    Took-append (string_bytes c.args.self.now.name) c.args.self.now.buffer.items _ _ _ (g.F.Shelf.files c.args.files.now) (g.F.Shelf.files c.append.new.self) (rest_of g.F.Shelf.read_faults g.F.Shelf.may_read g.F.Shelf.may_write c.args.files.now) (rest_of g.F.Shelf.read_faults g.F.Shelf.may_read g.F.Shelf.may_write c.append.new.self)
    c.as_str.ensures.value c.as_slice.ensures.value c.clear.ensures.items (same_rest _ _ c.in_ok-append.ensures.no_read c.in_ok-append.ensures.readable c.in_ok-append.ensures.writable) c.in_ok-append.ensures.ok
