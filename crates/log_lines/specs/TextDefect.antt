-- The first defect of the text of a log.
use Rattle.std.specs.Prelude.{ℕ, ◌+◌, ◌==◌, ◌&&◌, nat_lt, Bool, true, false, if◌then◌else◌, Option, None, Some, List, [], ◌∷◌, length}
use Rattle.std.specs.List.{slice_split}
use Rattle.std.specs.Option.{option_map_or}
use Rattle.log_lines.specs.declared.grammar.Limits.{Limits}
use Rattle.log_lines.specs.declared.grammar.Place.{Place}
use Rattle.log_lines.specs.declared.grammar.Place.TheVariants as place
use Rattle.log_lines.specs.Grammar.{Standing, new_standing, next, line_defect}
use Rattle.log_lines.specs.Said.{line_said}

-- nothing comes next
abbrev pub is_done : Place → Bool
is_done place.Done = true
is_done _ = false

-- the kind of the defect of a line's bytes: 1 where they are no line, else that of the line here
abbrev pub part_defect : Limits → Standing → List ℕ → Option ℕ
part_defect limits standing part = option_map_or (line_defect limits standing) (line_said part) (Some 1)

-- the standing after a line's bytes, where they are a line that may stand here
abbrev pub after_bytes : Standing → List ℕ → Option Standing
after_bytes standing part = option_map_or (next standing) (line_said part) None

-- the line and the kind of the first defect of the parts between line feeds, from the line of this number on: 3 for a byte after
-- the last line; before it 1 for a part of more than 200 bytes, 2 for a last part, and the defect of a part's bytes
unfoldable pub text_defect : Limits → Standing → ℕ → List (List ℕ) → Option (ℕ × ℕ)
text_defect limits standing number [] = None
text_defect limits standing number (part ∷ parts) =
    if is_done standing.place then (if (length part == 0) && (length parts == 0) then None else Some (number, 3))
    else (if nat_lt 200 (length part) then Some (number, 1)
    else (if length parts == 0 then Some (number, 2)
    else option_map_or (λ kind. Some (number, kind)) (part_defect limits standing part)
    (option_map_or (λ after. text_defect limits after (number + 1) parts) (after_bytes standing part) None)))

-- the first defect of the bytes of a log: its line, counted from 1, and its kind
abbrev pub log_text_defect : Limits → List ℕ → Option (ℕ × ℕ)
log_text_defect limits bytes = text_defect limits new_standing 1 (slice_split (λ byte. byte == 10) bytes)
