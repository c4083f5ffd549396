use Rattle.std.proofs.Common.{string_bytes}
use Rattle.stn_edge.proofs.StoredFiles.{files_of-set}
use Rattle.stn_edge.proofs.named_files.NamedFiles.put.Goals as goal

pub returns-clause-ok : goal.returns-clause-ok
returns-clause-ok c =
    let set = files_of-set c.self.inside.entries c.insert.new.self (string_bytes c.in_ok-key.key) c.in_ok-file.file c.in_ok-insert.ensures.updates in
    rw (← c.self.view_is, ← c.in_ok-key.ensures.ok, ← c.in_ok-file.ensures.items) set
