-- Which parts of a plant's choices have many points.
use Rattle.std.specs.Prelude.{ℕ, Bool, drop, nat_lt}
use Rattle.row_kit.specs.declared.program.Program.{Program}
use Rattle.row_kit.specs.Points.{points_of}

-- whether the log of a part has a head: exactly where the part's slots from this number on have more than 50,000 points
unfoldable pub is_headed : Program → ℕ → Bool
is_headed part levels = nat_lt 50000 (points_of (drop levels part.root))
