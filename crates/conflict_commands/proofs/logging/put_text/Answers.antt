-- The file is cleared, and the bytes are appended.
use Rattle.std.proofs.lemmas.Result.{on_ok_weaker}
use Rattle.conflict_commands.proofs.PutText.{put_ok, clear_failed, clear_others, put_begun, put_others}
use Rattle.conflict_commands.proofs.logging.put_text.Goals as goal

pub returns-in_err-clear-clause-begun : goal.returns-in_err-clear-clause-begun
returns-in_err-clear-clause-begun g c = clear_failed c.args.name.now c.args.bytes.now (g.F.Shelf.files c.args.files.now) (g.F.Shelf.files c.clear.new.self) c.in_err-clear.ensures.err

pub returns-in_err-clear-clause-others : goal.returns-in_err-clear-clause-others
returns-in_err-clear-clause-others g c = clear_others c.args.name.now (g.F.Shelf.files c.args.files.now) (g.F.Shelf.files c.clear.new.self) c.in_err-clear.ensures.err

pub returns-clause-ok : goal.returns-clause-ok
returns-clause-ok g c =
    on_ok_weaker c.append.result (put_ok c.args.name.now c.args.bytes.now (g.F.Shelf.files c.args.files.now) (g.F.Shelf.files c.clear.new.self) (g.F.Shelf.files c.append.new.self) c.in_ok-clear.ensures.ok) c.append.ensures.ok

pub returns-clause-begun : goal.returns-clause-begun
returns-clause-begun g c =
    put_begun c.args.name.now c.args.bytes.now (g.F.Shelf.files c.args.files.now) (g.F.Shelf.files c.clear.new.self) (g.F.Shelf.files c.append.new.self) c.append.result c.in_ok-clear.ensures.ok c.append.ensures.ok c.append.ensures.err

pub returns-clause-others : goal.returns-clause-others
returns-clause-others g c =
    put_others c.args.name.now c.args.bytes.now (g.F.Shelf.files c.args.files.now) (g.F.Shelf.files c.clear.new.self) (g.F.Shelf.files c.append.new.self) c.append.result c.in_ok-clear.ensures.ok c.append.ensures.ok c.append.ensures.err
