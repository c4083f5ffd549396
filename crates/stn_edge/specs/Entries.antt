-- The entries of a map from texts to bytes, as the files that they are.
use Rattle.std.specs.Prelude.{ℕ, List, map, String, Vec, string_bytes}
use Rattle.std.specs.Global.{Global}
use Rattle.std.specs.FinMap.{from_entries}
use Rattle.stn_edge.specs.Files.{FileMap}

-- the files whose names and bytes the entries hold
abbrev pub files_of : List (String Global × Vec ℕ Global) → FileMap
files_of entries = from_entries (map (λ entry. (string_bytes entry.0, entry.1.items)) entries)
