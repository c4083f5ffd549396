-- A log that is read while another is written.
use Rattle.std.proofs.Common.{◌≡◌, ◌≢◌, ◌∙◌, ℕ, Bool, List, Option, None, sym, subst}
use Rattle.std.specs.Prelude.{IsTrue}
use Rattle.stn_edge.specs.Files.{FileMap, OthersStay}
use Rattle.stn_edge.specs.declared.shelf.Shelf.{Ghosts}
use Rattle.proof_log.specs.declared.log_reader.LogReader.{LogReader}
use Rattle.proof_log.specs.Writer.{KeepsOthers, Writing}
use Rattle.row_relax.specs.declared.rows.Rows.{Rows}
use Rattle.branch_tree.specs.declared.going_on.GoingOn.{GoingOn}
use Rattle.branch_tree.specs.laws.Going.{CanGoOn}
use Rattle.log_nodes.specs.Reading.{IsReading}
use Rattle.log_nodes.proofs.Frames.{others-then}
use Rattle.store_frames.specs.Frames.{WritesOne}
use Rattle.log_nodes.proofs.Stays.{read_stays, same_file}
use Rattle.resumed_log.specs.laws.Walks.{CanWriteBeside, GoesOnWalking}

-- a reader reads a file on where another one changes
pub reading-stays : (name out : List ℕ) (r : LogReader) (old new : Option FileMap) → OthersStay out old new → out ≢ name → IsReading old name r → IsReading new name r
reading-stays name out r old new others apart is =
    (is.0, (is.1.0, (is.1.1.0, (is.1.1.1.0, read_stays is.0 is.1.0 name is.1.1.0 is.1.1.1.0 None r old new (same_file name old new (others name (λ own. apart (sym own)))) is.1.1.1.1))))

-- a log is walked on where another one changes
pub walks-on : {name out : List ℕ} {r : LogReader} {old new : Option FileMap} {most : ℕ} {rows : Rows} {going later : GoingOn}
    → OthersStay out old new → out ≢ name → CanGoOn most rows later → GoesOnWalking old name r most rows going → GoesOnWalking new name r most rows later
walks-on {name} {out} {r} {old} {new} others apart can walking = record { reading = reading-stays name out r old new others apart walking.reading; can = can }

-- one file may still be read while another is written
pub still-beside : {reads writes reads2 writes2 : List ℕ → Bool} {log out out2 : List ℕ}
    → reads2 ≡ reads → writes2 ≡ writes → out2 ≡ out → CanWriteBeside reads writes log out → CanWriteBeside reads2 writes2 log out2
still-beside {reads} {writes} {reads2} {writes2} {log} {out} {out2} readable writable named may = record {
  may_read = subst (λ (may : List ℕ → Bool). IsTrue (may log)) (sym readable) may.may_read;
  may_write = subst (λ (may : List ℕ → Bool). IsTrue (may out2)) (sym writable) (subst (λ (name : List ℕ). IsTrue (writes name)) (sym named) may.may_write);
  apart = λ is. may.apart (sym named ∙ is);
}

-- the file that is written may still be written
pub may-write-on : {F : Type 0} {S : Ghosts F} {name later : List ℕ} {a b : F} → WritesOne S name a b → later ≡ name → IsTrue (S.may_write a name) → IsTrue (S.may_write b later)
may-write-on {F} {S} {name} {later} {a} frame named allowed =
    subst (λ (may : List ℕ → Bool). IsTrue (may later)) (sym frame.writable) (subst (λ (own : List ℕ). IsTrue (S.may_write a own)) (sym named) allowed)

-- other files stay as a writer's changes follow one another
pub keeps-then : (a b c : Writing) → KeepsOthers a b → KeepsOthers b c → KeepsOthers a c
keeps-then a b c first second = record {
  name = second.name ∙ first.name;
  others = others-then a.name b.name a.files b.files c.files first.name first.others second.others;
  reads = second.reads ∙ first.reads;
  may_read = second.may_read ∙ first.may_read;
  may_write = second.may_write ∙ first.may_write;
}
