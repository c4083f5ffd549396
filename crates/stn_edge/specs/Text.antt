-- What a sink has written.
use Rattle.std.specs.Prelude.{ℕ, List, ◌++◌}

-- the text when these bytes follow it
abbrev pub extended : List ℕ → List ℕ → List ℕ
extended bytes text = text ++ bytes
