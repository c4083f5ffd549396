-- The first defect of the sums of a head, as a function of the lines.
use Rattle.std.specs.Prelude.{◌≡◌, ◌↔◌, ◌+◌, ◌==◌, ◌≤◌, ◌&&◌, ℕ, zero, suc, nat_lt, nat_le, if◌then◌else◌, Option, Some, None, List, [], ◌∷◌, length, bytes_eq}
use Rattle.std.specs.List.{slice_split}
use Rattle.std.specs.Option.{option_map_or}
use Rattle.log_lines.specs.declared.defect.Defect.{Defect}
use Rattle.log_lines.specs.declared.grammar.Limits.{Limits}
use Rattle.log_lines.specs.Grammar.{follows}
use Rattle.sum_lines.specs.declared.line.HeadLine.{HeadLine}
use Rattle.sum_lines.specs.declared.line.HeadLine.TheVariants as line
use Rattle.sum_lines.specs.Front.{IsBadHead, opening_defect}
use Rattle.sum_lines.specs.Head.{IsHeadVersion, first_line}
use Rattle.head_laws.specs.HeadLines.{head_line_said}

-- a sum line that announces at most as many terms as slots
abbrev pub opens : ℕ → Option HeadLine → Option HeadLine
opens slots None = None
opens slots (Some (line.Sum width offset low high count)) = if nat_le count slots then Some (line.Sum width offset low high count) else None
opens slots (Some (line.Term _ _ _)) = None

-- the line that begins a sum, where the bytes are that of one and so many lines follow
abbrev pub opening_said : ℕ → List ℕ → ℕ → Option HeadLine
opening_said slots bytes later = if nat_lt 0 later then opens slots (head_line_said bytes) else None

-- how many terms a line announces
abbrev pub count_of : HeadLine → ℕ
count_of (line.Sum _ _ _ _ count) = count
count_of (line.Term _ _ _) = 0

-- the slot of a term line that follows the last one
abbrev pub slot_after : Option ℕ → Option HeadLine → Option ℕ
slot_after above None = None
slot_after above (Some (line.Sum _ _ _ _ _)) = None
slot_after above (Some (line.Term slot _ _)) = if follows above slot then Some slot else None

-- the line and the kind of the first defect of parts between line feeds, from the line of this number
-- on, after so many sums and where so many terms are to come. Where none is: that of a line that begins
-- a sum; another line ends the head. Else 2 or, above 200 bytes, 1 for a last part; 1 for a line that is
-- not that of the next term; 5 for a slot that is not there
unfoldable pub sums_defect : ℕ → Limits → ℕ → ℕ → Option ℕ → ℕ → List (List ℕ) → Option (ℕ × ℕ)
sums_defect version limits before left above number [] = None
sums_defect version limits before zero above number (part ∷ parts) =
    option_map_or
    (λ opening. option_map_or (λ kind. Some (number, kind)) (opening_defect version limits before opening)
    (sums_defect version limits (before + 1) (count_of opening) None (number + 1) parts))
    (opening_said limits.slots part (length parts)) None
sums_defect version limits before (suc left) above number (part ∷ parts) =
    if length parts == 0 then Some (number, if nat_lt 200 (length part) then 1 else 2)
    else option_map_or
    (λ slot. if nat_le limits.slots slot then Some (number, 5) else sums_defect version limits before left (Some slot) (number + 1) parts)
    (slot_after above (head_line_said part)) (Some (number, 1))

-- the same of all parts, the first of which is to be the first line of this version
abbrev pub parts_defect : ℕ → Limits → List (List ℕ) → Option (ℕ × ℕ)
parts_defect version limits [] = None
parts_defect version limits (part ∷ parts) =
    if bytes_eq (first_line version) part && nat_lt 0 (length parts) then sums_defect version limits 0 0 None 2 parts else None

-- the line and the kind of the first defect of a head of a version, up to its last sum
abbrev pub head_defect : ℕ → Limits → List ℕ → Option (ℕ × ℕ)
head_defect version limits bytes = parts_defect version limits (slice_split (λ byte. byte == 10) bytes)

-- over the limits of a program's logs a head has this first defect exactly where the function finds it
-- in one of the versions that have a head
abbrev pub HeadDefectsAre : Type 0
HeadDefectsAre =
    (limits : Limits) (bytes : List ℕ) (defect : Defect) → limits.slots ≤ 4096 → limits.rows ≤ 400000
    → IsBadHead limits bytes defect ↔ ((version : ℕ) × IsHeadVersion version × (head_defect version limits bytes ≡ Some (defect.line, defect.kind)))
