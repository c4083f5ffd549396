-- Stands in specs/ since a clause of a private function cites it; no public clause does.
-- Which start comes next after one in its lane.
use Rattle.std.specs.Prelude.{ℕ, min, if◌then◌else◌, List, [], ◌∷◌}
use Rattle.row_kit.specs.declared.row.Tag.{Tag}
use Rattle.row_kit.specs.Change.{is_after}

-- the least place of a start after a in its lane, and 2 to the power 32 where there is none
abbrev pub least_after : List Tag → Tag → ℕ
least_after [] a = 4294967296
least_after (b ∷ bs) a = if is_after a b then min b.place (least_after bs a) else least_after bs a
