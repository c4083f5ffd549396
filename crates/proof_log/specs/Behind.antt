-- A log that stands behind a head in its file.
use Rattle.std.specs.Prelude.{ℕ, ◌==◌, if◌then◌else◌, zero, suc, List, [], ◌∷◌, ◌++◌, drop}
use Rattle.log_lines.specs.declared.line.Line.TheVariants.{Header}
use Rattle.proof_log.specs.Log.{lines_text}

-- the version of the log that is read behind a head of a version: 4 behind one of version 4, and else 2
abbrev pub version_behind : ℕ → ℕ
version_behind version = if version == 4 then 4 else 2

-- the log that is read behind a head of a version and of so many bytes: its header, and what follows the head; without a head the bytes themselves
abbrev pub behind : ℕ → ℕ → List ℕ → List ℕ
behind version zero bytes = bytes
behind version (suc n) bytes = lines_text (Header (version_behind version) ∷ []) ++ drop (suc n) bytes
