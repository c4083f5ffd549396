use Rattle.std.proofs.Common.{rules}
use Rattle.proof_log.proofs.Writing.{rest_of, IsWhole-cleared}
use Rattle.proof_log.proofs.writer.LogWriter.begin_with.Goals as goal

pub returns-clause-header : goal.returns-clause-header
returns-clause-header g c = search rules

pub returns-clause-whole : goal.returns-clause-whole
returns-clause-whole g c =
    IsWhole-cleared c.args.name.now _ c.extend_from_slice.new.self.items c.args.head.now (g.F.Shelf.files c.args.files.now) (g.F.Shelf.files c.clear.new.self) (rest_of g.F.Shelf.read_faults g.F.Shelf.may_read g.F.Shelf.may_write c.clear.new.self)
    c.in_ok-own_name.ensures.ok c.in_ok-clear.ensures.ok (returns-clause-header g c)
