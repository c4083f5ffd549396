use Rattle.std.proofs.Common.{sym}
use Rattle.stn_edge.proofs.StoredFiles.{grown, grown_not, appended_first}
use Rattle.stn_edge.proofs.named_files.NamedFiles.append.Goals as goal

pub returns-in-Some-clause-ok : goal.returns-in-Some-clause-ok
returns-in-Some-clause-ok c =
    rw (← c.self.view_is)
    (grown c.extend_from_slice.result c.self.inside.entries (c.get_mut.follows.lender c.extend_from_slice.new.self)
    c.args.name.now c.args.bytes.now c.in-Some.file.now c.extend_from_slice.new.self
    (sym c.in-Some.ensures.value) (c.get_mut.follows.holds c.extend_from_slice.new.self) c.extend_from_slice.ensures.items)

pub returns-in-Some-clause-err : goal.returns-in-Some-clause-err
returns-in-Some-clause-err c =
    rw (← c.self.view_is)
    (grown_not c.extend_from_slice.result c.self.inside.entries (c.get_mut.follows.lender c.extend_from_slice.new.self)
    c.args.name.now c.args.bytes.now c.in-Some.file.now c.extend_from_slice.new.self
    (sym c.in-Some.ensures.value) (c.get_mut.follows.holds c.extend_from_slice.new.self) c.extend_from_slice.ensures.items)

pub returns-in-None-clause-ok : goal.returns-in-None-clause-ok
returns-in-None-clause-ok c =
    let first = appended_first c.self.inside.entries c.args.name.now c.args.bytes.now (sym c.in-None.ensures.value) in
    rw (← c.self.view_is, ← first, ← c.get_mut.follows.holds-at-none) c.put.ensures.ok
