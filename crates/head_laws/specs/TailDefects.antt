-- The first defect of the derivations behind a head, as a function of the lines.
use Rattle.std.specs.Prelude.{◌≡◌, ◌↔◌, ◌+◌, ◌==◌, ◌≤◌, ◌||◌, ℕ, Bool, true, false, nat_lt, nat_le, if◌then◌else◌, Option, Some, None, List, [], ◌∷◌, ◌++◌, length, drop}
use Rattle.std.specs.List.{slice_split}
use Rattle.std.specs.Option.{option_map_or}
use Rattle.log_lines.specs.declared.defect.Defect.{Defect}
use Rattle.log_lines.specs.declared.grammar.Limits.{Limits}
use Rattle.log_lines.specs.Grammar.{follows}
use Rattle.derived_rows.specs.declared.derived.Derived.{Derived}
use Rattle.derived_rows.specs.declared.derived.Members.TheVariants.{One, OfRow}
use Rattle.sum_lines.specs.declared.head.Head.{Head}
use Rattle.sum_lines.specs.Head.{last_slot}
use Rattle.derivation_lines.specs.declared.line.TailLine.{TailLine}
use Rattle.derivation_lines.specs.declared.line.TailLine.TheVariants as line
use Rattle.derivation_lines.specs.declared.tail.Counts.{Counts}
use Rattle.derivation_lines.specs.declared.tail.Part.{Part}
use Rattle.derivation_lines.specs.declared.tail.Part.TheVariants as part
use Rattle.derivation_lines.specs.Front.{IsBadTail, beginning_defect, last_row, next_part, part_defect}
use Rattle.head_laws.specs.TailLines.{tail_line_said}

-- a cut begins a derivation, and so does a row with at most as many entries as slots
abbrev pub may_begin : ℕ → TailLine → Bool
may_begin slots (line.Cut _ _) = true
may_begin slots (line.Row _ _ _ _ _ _ entries) = nat_le entries slots
may_begin slots (line.By _ _) = false
may_begin slots (line.Shift _ _) = false
may_begin slots (line.Lift _ _) = false
may_begin slots (line.Entry _ _ _) = false

-- a line that passes a test
abbrev pub passed : (TailLine → Bool) → Option TailLine → Option TailLine
passed test None = None
passed test (Some said) = if test said then Some said else None

-- the line that begins a derivation, where the bytes are that of one and so many lines follow
abbrev pub beginning_said : ℕ → List ℕ → ℕ → Option TailLine
beginning_said slots bytes later = if nat_lt 0 later then passed (may_begin slots) (tail_line_said bytes) else None

-- a line may be that of the part that comes next in a row
abbrev pub may_come : Derived → Part → TailLine → Bool
may_come derived part.Factor (line.By row _) = follows (last_row None derived.factors) row
may_come derived part.Group (line.Shift _ _) = true
may_come derived part.Group (line.Lift _ _) = true
may_come derived part.Entry (line.Entry slot _ _) = follows (last_slot None derived.entries) slot
may_come derived _ _ = false

-- a row with the part of a line more
abbrev pub with_line : Derived → TailLine → Derived
with_line derived (line.Cut _ _) = derived
with_line derived (line.Row _ _ _ _ _ _ _) = derived
with_line derived (line.By row by) = record derived { factors = derived.factors ++ record { row = row; by = by } ∷ [] }
with_line derived (line.Shift row shift) = record derived { groups = derived.groups ++ record { members = OfRow row; shift = shift } ∷ [] }
with_line derived (line.Lift slot shift) = record derived { groups = derived.groups ++ record { members = One slot; shift = shift } ∷ [] }
with_line derived (line.Entry slot fixed per) = record derived { entries = derived.entries ++ record { slot = slot; fixed = fixed; per = per } ∷ [] }

-- a row has fewer parts of some kind than it is to have
abbrev pub is_fewer : Derived → Counts → Bool
is_fewer derived counts =
    nat_lt (length derived.factors) counts.factors || nat_lt (length derived.groups) counts.groups || nat_lt (length derived.entries) counts.entries

-- the row that is still open, where it has fewer parts
abbrev pub still_open : Derived → Counts → Option (Derived × Counts)
still_open derived counts = if is_fewer derived counts then Some (derived, counts) else None

-- how many rows stand before what comes next, where so many stood before the row
abbrev pub rows_then : ℕ → Derived → Counts → ℕ
rows_then before derived counts = if is_fewer derived counts then before else before + 1

-- the row without parts that a line begins
abbrev pub row_with : ℕ → ℕ → ℕ → ℕ → Derived
row_with divisor rest up down = record { divisor = divisor; rest = rest; up = up; down = down; factors = []; groups = []; entries = [] }

-- how many parts of each kind it is to have
abbrev pub counts_with : ℕ → ℕ → ℕ → Counts
counts_with factors groups entries = record { factors = factors; groups = groups; entries = entries }

-- the row that is open behind a line that begins a derivation
abbrev pub open_behind : TailLine → Option (Derived × Counts)
open_behind (line.Cut _ _) = None
open_behind (line.Row divisor rest up down factors groups entries) = still_open (row_with divisor rest up down) (counts_with factors groups entries)
open_behind (line.By _ _) = None
open_behind (line.Shift _ _) = None
open_behind (line.Lift _ _) = None
open_behind (line.Entry _ _ _) = None

-- how many rows stand before what comes behind such a line
abbrev pub rows_behind : ℕ → TailLine → ℕ
rows_behind before (line.Cut _ _) = before
rows_behind before (line.Row divisor rest up down factors groups entries) = rows_then before (row_with divisor rest up down) (counts_with factors groups entries)
rows_behind before (line.By _ _) = before
rows_behind before (line.Shift _ _) = before
rows_behind before (line.Lift _ _) = before
rows_behind before (line.Entry _ _ _) = before

-- the line and the kind of the first defect of parts between line feeds, from the line of this number
-- on, after so many derived rows, and where a row is open or none is. Where none is: that of a line that
-- begins a derivation; another line ends them. Else 2 or, above 200 bytes, 1 for a last part; 1 for a
-- line that may not come next; 4 or 5 for a row or slot that is not there
unfoldable pub tails_defect : Limits → ℕ → Option (Derived × Counts) → ℕ → List (List ℕ) → Option (ℕ × ℕ)
tails_defect limits before open_row number [] = None
tails_defect limits before None number (part ∷ parts) =
    option_map_or
    (λ begins. option_map_or (λ kind. Some (number, kind)) (beginning_defect limits before begins)
    (tails_defect limits (rows_behind before begins) (open_behind begins) (number + 1) parts))
    (beginning_said limits.slots part (length parts)) None
tails_defect limits before (Some row) number (part ∷ parts) =
    if length parts == 0 then Some (number, if nat_lt 200 (length part) then 1 else 2)
    else option_map_or
    (λ comes. option_map_or (λ kind. Some (number, kind)) (part_defect limits.slots (limits.rows + before) comes)
    (tails_defect limits (rows_then before (with_line row.0 comes) row.1) (still_open (with_line row.0 comes) row.1) (number + 1) parts))
    (passed (may_come row.0 (next_part row.0 row.1)) (tail_line_said part)) (Some (number, 1))

-- the line and the kind of the first defect of the derivations behind a head
abbrev pub tail_defect : Limits → Head → List ℕ → Option (ℕ × ℕ)
tail_defect limits head bytes = tails_defect limits 0 None (1 + head.count) (slice_split (λ byte. byte == 10) (drop head.bytes bytes))

-- over the limits of a program's logs the derivations behind a head have this first defect exactly
-- where the function finds it
abbrev pub TailDefectsAre : Type 0
TailDefectsAre =
    (limits : Limits) (head : Head) (bytes : List ℕ) (defect : Defect) → limits.slots ≤ 4096 → limits.rows ≤ 400000
    → IsBadTail limits head bytes defect ↔ (tail_defect limits head bytes ≡ Some (defect.line, defect.kind))
