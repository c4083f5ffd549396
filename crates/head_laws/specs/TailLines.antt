-- The line of derivations that bytes are.
use Rattle.std.specs.Prelude.{◌==◌, ◌^◌, ◌&&◌, not, ℕ, ℤ, Bool, nat_lt, nat_le, unsigned_abs, if◌then◌else◌, Option, Some, None, List, [], bytes_eq, codes, slice_index_or}
use Rattle.std.specs.List.{slice_split}
use Rattle.log_lines.specs.Said.{word_number}
use Rattle.row_kit.specs.Row.{is_nothing}
use Rattle.derivation_lines.specs.declared.line.TailLine.{TailLine}
use Rattle.derivation_lines.specs.declared.line.TailLine.TheVariants as line
use Rattle.derivation_lines.specs.Line.{tail_line_text}

-- the number that the word of this place is
abbrev pub number_at : List (List ℕ) → ℕ → ℤ
number_at words place = word_number (slice_index_or words place [])

-- the same without its sign
abbrev pub natural_at : List (List ℕ) → ℕ → ℕ
natural_at words place = unsigned_abs (number_at words place)

-- the first word is this name
abbrev pub is_named : List (List ℕ) → List ℕ → Bool
is_named words name = bytes_eq (slice_index_or words 0 []) name

-- the line that words are, by the first of them
abbrev pub line_with : List (List ℕ) → TailLine
line_with words =
    if is_named words (codes "cut") then line.Cut (natural_at words 1) (natural_at words 2)
    else (if is_named words (codes "row")
    then line.Row (natural_at words 1) (natural_at words 2) (natural_at words 3) (natural_at words 4) (natural_at words 5) (natural_at words 6) (natural_at words 7)
    else (if is_named words (codes "by") then line.By (natural_at words 1) (number_at words 2)
    else (if is_named words (codes "shift") then line.Shift (natural_at words 1) (number_at words 2)
    else (if is_named words (codes "lift") then line.Lift (natural_at words 1) (number_at words 2)
    else line.Entry (natural_at words 1) (number_at words 2) (number_at words 3)))))

-- the tests of `IsTailLine`
abbrev pub is_tail_line : TailLine → Bool
is_tail_line (line.Cut row slot) = nat_lt row (10 ^ 30) && nat_lt slot (10 ^ 30)
is_tail_line (line.Row divisor rest up down factors groups entries) =
    nat_le 1 divisor && nat_le divisor 1000000000 && nat_lt rest divisor && nat_le 1 up && nat_le up 1000000000 && nat_le 1 down && nat_le down 1000000000
    && nat_le 1 factors && nat_le factors 64 && nat_le groups 512 && nat_le entries 4096
is_tail_line (line.By row by) = nat_lt row (10 ^ 30) && nat_le 1 (unsigned_abs by) && nat_le (unsigned_abs by) 1000000
is_tail_line (line.Shift row shift) = nat_lt row (10 ^ 30) && nat_le (unsigned_abs shift) 1000000000000
is_tail_line (line.Lift slot shift) = nat_lt slot (10 ^ 30) && nat_le (unsigned_abs shift) 1000000000000
is_tail_line (line.Entry slot fixed per) =
    nat_lt slot (10 ^ 30) && nat_le (unsigned_abs fixed) 10000000 && nat_le (unsigned_abs per) 10000000 && not (is_nothing (fixed, per))

-- the line of derivations that bytes are, if they are the text of one that may be written
unfoldable pub tail_line_said : List ℕ → Option TailLine
tail_line_said bytes =
    let said = line_with (slice_split (λ byte. byte == 32) bytes) in
    if is_tail_line said && bytes_eq (tail_line_text said) bytes then Some said else None
