-- What a call leaves of its store.
use Rattle.std.specs.Prelude.{◌≡◌, ◌≤◌, ℕ, List}
use Rattle.stn_edge.specs.Files.{OthersStay}
use Rattle.stn_edge.specs.declared.shelf.Shelf.{Ghosts}

-- a call that only reads: the files are as before, as is what may be read and written; no write has failed, reads may have
pub record OnlyReads {F : Type 0} (S : Ghosts F) (old new : F) : Type 0 where
  pub same : S.files new ≡ S.files old
  pub readable : S.may_read new ≡ S.may_read old
  pub writable : S.may_write new ≡ S.may_write old
  pub later : S.read_faults old ≤ S.read_faults new
  pub no_write : S.write_faults new ≡ S.write_faults old

-- a call that reads and writes: what may be read and written is as before; reads and writes may have failed
pub record ReadsAndWrites {F : Type 0} (S : Ghosts F) (old new : F) : Type 0 where
  pub readable : S.may_read new ≡ S.may_read old
  pub writable : S.may_write new ≡ S.may_write old
  pub later : S.read_faults old ≤ S.read_faults new
  pub writes : S.write_faults old ≤ S.write_faults new

-- a call that writes one file: all others stay, as does what may be read and written; no read has failed, writes may have
pub record WritesOne {F : Type 0} (S : Ghosts F) (name : List ℕ) (old new : F) : Type 0 where
  pub others : OthersStay name (S.files old) (S.files new)
  pub readable : S.may_read new ≡ S.may_read old
  pub writable : S.may_write new ≡ S.may_write old
  pub no_read : S.read_faults new ≡ S.read_faults old
  pub writes : S.write_faults old ≤ S.write_faults new

-- a call that reads, and writes one file: all others stay, as does what may be read and written; reads and writes may have failed
pub record ReadsAndWritesOne {F : Type 0} (S : Ghosts F) (name : List ℕ) (old new : F) : Type 0 where
  pub others : OthersStay name (S.files old) (S.files new)
  pub readable : S.may_read new ≡ S.may_read old
  pub writable : S.may_write new ≡ S.may_write old
  pub later : S.read_faults old ≤ S.read_faults new
  pub writes : S.write_faults old ≤ S.write_faults new
