-- The line of a head that bytes are.
use Rattle.std.specs.Prelude.{◌==◌, ◌^◌, ◌&&◌, not, ℕ, Bool, true, nat_lt, nat_le, unsigned_abs, if◌then◌else◌, Option, Some, None, List, [], ◌∷◌, bytes_eq, codes, slice_index_or}
use Rattle.std.specs.List.{slice_split}
use Rattle.std.specs.Str.Parse.{digits_value}
use Rattle.log_lines.specs.Said.{word_number}
use Rattle.row_kit.specs.Row.{is_nothing}
use Rattle.sum_lines.specs.declared.line.HeadLine.{HeadLine}
use Rattle.sum_lines.specs.declared.line.HeadLine.TheVariants as line
use Rattle.sum_lines.specs.Line.{head_line_text}

-- the row that a word names: none for a minus (45)
abbrev pub row_said : List ℕ → Option ℕ
row_said word = if bytes_eq word (45 ∷ []) then None else Some (digits_value 10 word)

-- the line that words are, by the first of them
abbrev pub line_with : List (List ℕ) → HeadLine
line_with words =
    if bytes_eq (slice_index_or words 0 []) (codes "sum")
    then line.Sum (digits_value 10 (slice_index_or words 1 [])) (word_number (slice_index_or words 2 [])) (row_said (slice_index_or words 3 []))
    (row_said (slice_index_or words 4 [])) (digits_value 10 (slice_index_or words 5 []))
    else line.Term (digits_value 10 (slice_index_or words 1 [])) (word_number (slice_index_or words 2 [])) (word_number (slice_index_or words 3 []))

-- the row, where one is named, has at most 30 digits
abbrev pub is_short_row : Option ℕ → Bool
is_short_row None = true
is_short_row (Some row) = nat_lt row (10 ^ 30)

-- the tests of `IsHeadLine`
abbrev pub is_head_line : HeadLine → Bool
is_head_line (line.Sum width offset low high count) =
    nat_le 1 width && nat_le width 1000000 && nat_le (unsigned_abs offset) 900000000000 && is_short_row low && is_short_row high
    && nat_le 1 count && nat_lt count (10 ^ 30)
is_head_line (line.Term slot fixed per) =
    nat_lt slot (10 ^ 30) && nat_le (unsigned_abs fixed) 10000000 && nat_le (unsigned_abs per) 10000000 && not (is_nothing (fixed, per))

-- the line of a head that bytes are, if they are the text of one that may be written
unfoldable pub head_line_said : List ℕ → Option HeadLine
head_line_said bytes =
    let said = line_with (slice_split (λ byte. byte == 32) bytes) in
    if is_head_line said && bytes_eq (head_line_text said) bytes then Some said else None
