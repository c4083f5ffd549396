-- What a search whose log is written to its end leaves of a store.
use Rattle.std.proofs.Common.{◌≡◌, ◌≤◌, ℕ, List, string_bytes}
use Rattle.stn_edge.specs.declared.shelf.Shelf.{Ghosts}
use Rattle.store_frames.specs.Frames.{WritesOne}
use Rattle.proof_log.specs.declared.writer.LogWriter.{LogWriter}
use Rattle.proof_log.specs.Writer.{KeepsOthers, writing, written}
use Rattle.logged_search.specs.Logging.{stored}
use Rattle.logged_search.proofs.LogsLeft.{writes-finished, writes-kept, writes-then}

-- the log without its claim is written first, and then its end
pub finished : {F : Type 0} (S : Ghosts F) (name : List ℕ) (writer : LogWriter) (before store store_after : F) → string_bytes writer.name ≡ name
    → KeepsOthers (stored S.files S.read_faults S.may_read S.may_write name before) (stored S.files S.read_faults S.may_read S.may_write name store) → S.write_faults before ≤ S.write_faults store
    → KeepsOthers (writing S.files S.read_faults S.may_read S.may_write writer store) (written S.files S.read_faults S.may_read S.may_write writer store_after) → S.write_faults store ≤ S.write_faults store_after
    → WritesOne S name before store_after
finished S name writer before store store_after named kept later keeps writes =
    writes-then S name (string_bytes writer.name) before store store_after named (writes-kept S name before store kept later) (writes-finished S writer store store_after keeps writes)
