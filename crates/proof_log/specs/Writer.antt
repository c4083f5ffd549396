-- What a writer of a log holds back and what it has written.
use Rattle.std.specs.Prelude.{◌≡◌, ℕ, Bool, List, [], ◌++◌, Option, None, Some, IfSome, flat_map, string_bytes, refl}
use Rattle.std.proofs.Common.{sym, ap}
use Rattle.std.proofs.lemmas.List.{append-nil}
use Rattle.std.specs.Option.{option_map}
use Rattle.stn_edge.specs.Files.{FileMap, OthersStay, file_of}
use Rattle.proof_log.specs.Log.{item_lines, lines_text}
use Rattle.proof_log.specs.declared.writer.LogWriter.{LogWriter}

-- a writer over a store: the name of its file, the bytes that it holds back, the files where the store tells them, the count of
-- read faults, and the names that may be read and written
pub record Writing : Type 0 where
  pub name : List ℕ
  pub held : List ℕ
  pub files : Option FileMap
  pub reads : ℕ
  pub may_read : List ℕ → Bool
  pub may_write : List ℕ → Bool

-- a writer over a store of which these calls tell the files, the count, and the names
abbrev pub writing : {S : Type 0} → (S → Option FileMap) → (S → ℕ) → (S → List ℕ → Bool) → (S → List ℕ → Bool) → LogWriter → S → Writing
writing files reads may_read may_write writer store = record {
  name = string_bytes writer.name;
  held = writer.buffer.items;
  files = files store;
  reads = reads store;
  may_read = may_read store;
  may_write = may_write store;
}

-- the same, where nothing is held back any more
abbrev pub written : {S : Type 0} → (S → Option FileMap) → (S → ℕ) → (S → List ℕ → Bool) → (S → List ℕ → Bool) → LogWriter → S → Writing
written files reads may_read may_write writer store = record (writing files reads may_read may_write writer store) { held = [] }

-- the file followed by what is held back, where the store tells its files
abbrev pub whole : Writing → Option (List ℕ)
whole at = option_map (λ files. file_of files at.name ++ at.held) at.files

-- the file followed by what is held back is this text, where the store tells its files
abbrev pub IsWhole : Writing → List ℕ → Type 0
IsWhole at text = IfSome (whole at) (λ all. all ≡ text)

-- the name of the file, all other files, the count of read faults and the names that may be read and written stay
pub record KeepsOthers (old new : Writing) : Type 0 where
  pub name : new.name ≡ old.name
  pub others : OthersStay old.name old.files new.files
  pub reads : new.reads ≡ old.reads
  pub may_read : new.may_read ≡ old.may_read
  pub may_write : new.may_write ≡ old.may_write

-- the text was taken: the file followed by what is held back has grown by it
pub record Took (old new : Writing) (text : List ℕ) : Type 0 where
  pub keeps : KeepsOthers old new
  pub grown : whole new ≡ option_map (λ all. all ++ text) (whole old)

-- the text was not taken, or in part: the file is a first part of what it would have become
pub record Broke (old new : Writing) (text : List ℕ) : Type 0 where
  pub keeps : KeepsOthers old new
  pub part : (rest : List ℕ) × (option_map (λ files. file_of files new.name ++ rest) new.files ≡ option_map (λ all. all ++ text) (whole old))

-- a text with nothing after it is the same
nothing_after : (told : Option (List ℕ)) → told ≡ option_map (λ all. all ++ []) told
nothing_after None = refl
nothing_after (Some all) = ap Some (sym (append-nil all))

-- where nothing changed, no item was taken
pub took-none : (at : Writing) → Took at at (lines_text (flat_map item_lines []))
unfolding lines_text
took-none at = record { keeps = record { name = refl; others = λ other apart. refl; reads = refl; may_read = refl; may_write = refl }; grown = nothing_after (whole at) }
