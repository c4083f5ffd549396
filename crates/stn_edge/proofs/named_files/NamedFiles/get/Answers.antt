use Rattle.stn_edge.proofs.StoredFiles.{get-files_of}
use Rattle.stn_edge.proofs.named_files.NamedFiles.get.Goals as goal

pub returns-in-Some : goal.returns-in-Some
returns-in-Some c =
    let found = get-files_of c.self.inside.entries c.args.name.now in
    rw (← c.self.view_is, found, ← c.in-Some.ensures.value, c.as_slice.ensures.value)

pub returns-in-None : goal.returns-in-None
returns-in-None c =
    let found = get-files_of c.self.inside.entries c.args.name.now in
    rw (← c.self.view_is, found, ← c.in-None.ensures.value)
