-- A log that a command may name, and what is left in its file.
use Rattle.std.specs.Prelude.{◌≡◌, ℕ, List, Option, Some, None}
use Rattle.stn_edge.specs.Files.{FileMap}
use Rattle.plan_told.specs.Proofs.{bytes_in}

-- the bytes of the file of the log, where one is named and files are told
abbrev pub told_log : Option (List ℕ) → Option FileMap → Option (List ℕ)
told_log None files = None
told_log (Some log) files = bytes_in log files

-- what is left where a log may be named: such files, and where none is named, every file is as it was
abbrev pub LogLeft : Option (List ℕ) → (List ℕ → Type 0) → Option FileMap → Option FileMap → Type 0
LogLeft None Left old new = new ≡ old
LogLeft (Some log) Left old new = Left log
