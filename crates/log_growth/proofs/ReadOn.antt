-- Two logs that are read on, side by side.
use Rattle.std.proofs.Common.{◌≡◌, ◌≤◌, ℕ, List, Option, sym, subst}
use Rattle.std.specs.Prelude.{Bool, IsTrue}
use Rattle.stn_edge.specs.Files.{FileMap}
use Rattle.stn_edge.specs.declared.shelf.Shelf.{Ghosts}
use Rattle.row_relax.specs.declared.rows.Rows.{Rows}
use Rattle.row_relax.specs.View.{Fits}
use Rattle.proof_tree.specs.Views.{View}
use Rattle.store_frames.specs.Frames.{OnlyReads}
use Rattle.log_nodes.specs.Reading.{IsReading}
use Rattle.log_growth.specs.declared.way.Readers.{Readers}
use Rattle.log_growth.specs.laws.Grown.{CanGrow}

-- a call that leaves all this of its store only reads
pub only-reads : {F : Type 0} {S : Ghosts F} {old new : F} → S.files new ≡ S.files old → S.may_read new ≡ S.may_read old → S.may_write new ≡ S.may_write old → S.read_faults old ≤ S.read_faults new → S.write_faults new ≡ S.write_faults old → OnlyReads S old new
only-reads same readable writable later no_write = record { same = same; readable = readable; writable = writable; later = later; no_write = no_write }

-- both logs can be read on, after calls that only read
pub can-still : {F : Type 0} {S : Ghosts F} {files later : F} {log out : List ℕ} {before after : Readers} {rows : Rows} {view rest : View} → CanGrow S files log out before rows view → OnlyReads S files later
    → IsReading (S.files files) log after.log → IsReading (S.files files) out after.out → Fits rows.program rest → CanGrow S later log out after rows rest
can-still {F} {S} {files} {later} {log} {out} {before} {after} can frame log_reading out_reading fits = record {
  log_allowed = subst (λ (may : List ℕ → Bool). IsTrue (may log)) (sym frame.readable) can.log_allowed;
  out_allowed = subst (λ (may : List ℕ → Bool). IsTrue (may out)) (sym frame.readable) can.out_allowed;
  log_reading = subst (λ (told : Option FileMap). IsReading told log after.log) (sym frame.same) log_reading;
  out_reading = subst (λ (told : Option FileMap). IsReading told out after.out) (sym frame.same) out_reading;
  fits = fits;
}
