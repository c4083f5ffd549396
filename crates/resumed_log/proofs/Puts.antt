-- What a search has put, or has begun to put, since it began.
use Rattle.std.proofs.Common.{◌⊎◌, ◌≤◌, inl, inr, List, []}
use Rattle.std.specs.Prelude.{string_bytes}
use Rattle.stn_edge.specs.declared.shelf.Shelf.{Ghosts}
use Rattle.row_relax.specs.RowProofs.{RowItem}
use Rattle.branch_tree.specs.laws.Handed.{Grows}
use Rattle.branch_tree.specs.laws.Stops.{Stopped}
use Rattle.proof_log.specs.declared.writer.LogWriter.{LogWriter}
use Rattle.proof_log.specs.Writer.{KeepsOthers, writing}
use Rattle.store_frames.specs.Frames.{WritesOne}

-- where items were taken after any others, they were taken after none
pub grown-took : {T O : Type 0} (took : T → O → List RowItem → T → O → Type 0) (t : T) (o : O) (items : List RowItem) (t2 : T) (o2 : O) → Grows took took t o items t2 o2 → took t o [] t o → took t o items t2 o2
grown-took took t o items t2 o2 grows none = grows t o [] none

-- so of first items, of which the last may not have been taken wholly
pub stopped-took : {T O : Type 0} (took broke : T → O → List RowItem → T → O → Type 0) (t : T) (o : O) (all : List RowItem) (t2 : T) (o2 : O) → Stopped took broke t o all t2 o2 → took t o [] t o
    → (items : List RowItem) × (took t o items t2 o2 ⊎ broke t o items t2 o2)
stopped-took took broke t o all t2 o2 stopped none = (
  stopped.items,
  elim stopped.grows [
    | inl grows ↦ inl (grows t o [] none)
    | inr grows ↦ inr (grows t o [] none)
  ],
)

-- a writer that leaves all other files has written its own file alone
pub wrote-one : {F : Type 0} (S : Ghosts F) (w w2 : LogWriter) (s s2 : F) → KeepsOthers (writing S.files S.read_faults S.may_read S.may_write w s) (writing S.files S.read_faults S.may_read S.may_write w2 s2)
    → S.write_faults s ≤ S.write_faults s2 → WritesOne S (string_bytes w.name) s s2
wrote-one S w w2 s s2 keeps writes = record { others = keeps.others; readable = keeps.may_read; writable = keeps.may_write; no_read = keeps.reads; writes = writes }
