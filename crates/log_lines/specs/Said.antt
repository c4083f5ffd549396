-- The line that some bytes are.
use Rattle.std.specs.Prelude.{ℕ, ℤ, pos, neg_ℤ, ◌+◌, ◌==◌, ◌^◌, nat_lt, nat_le, ◌&&◌, not, Bool, true, if◌then◌else◌, unsigned_abs, Option, List, drop, length, map, find, bytes_eq, slice_index, slice_index_or}
use Rattle.std.specs.List.{slice_split, list_all}
use Rattle.std.specs.Option.{option_map}
use Rattle.std.specs.Str.Parse.{digits_value}
use Rattle.log_lines.specs.declared.form.Form.{Form}
use Rattle.log_lines.specs.declared.form.Form.TheVariants as form
use Rattle.log_lines.specs.declared.line.Line.{Line}
use Rattle.log_lines.specs.declared.line.Line.TheVariants.{Header, Node, Cut, Found, Value, Empty, Point, Dual, Pending, Floor, Split, Mult, ClaimOptimal, ClaimInfeasible, ClaimBetween, ClaimBelow, End}
use Rattle.log_lines.specs.Line.{all_forms, form_name, line_numbers, line_text}

-- the value of a word's digits, below zero after a minus (45)
unfoldable pub word_number : List ℕ → ℤ
word_number word =
    if slice_index word 0 == 45 then neg_ℤ (pos (digits_value 10 (drop 1 word))) else pos (digits_value 10 word)

-- the numbers that the words of the bytes are, after the words of a form and a blank (32)
unfoldable pub numbers_after : Form → List ℕ → List ℤ
numbers_after form bytes = map word_number (slice_split (λ byte. byte == 32) (drop (length (form_name form) + 1) bytes))

-- the number at a place, and the same without its sign
abbrev pub number_at : List ℤ → ℕ → ℤ
number_at numbers place = slice_index_or numbers place (pos 0)

abbrev pub natural_at : List ℤ → ℕ → ℕ
natural_at numbers place = unsigned_abs (number_at numbers place)

-- the line of a form with these numbers
abbrev pub line_with : Form → List ℤ → Line
line_with form.Header ns = Header (natural_at ns 0)
line_with form.Node ns = Node
line_with form.Cut ns = Cut (natural_at ns 0) (natural_at ns 1)
line_with form.Found ns = Found (number_at ns 0) (natural_at ns 1)
line_with form.Value ns = Value (natural_at ns 0) (natural_at ns 1)
line_with form.Empty ns = Empty
line_with form.Point ns = Point
line_with form.Dual ns = Dual (natural_at ns 0) (natural_at ns 1)
line_with form.Pending ns = Pending (natural_at ns 0) (natural_at ns 1)
line_with form.Floor ns = Floor (number_at ns 0)
line_with form.Split ns = Split (natural_at ns 0) (natural_at ns 1) (natural_at ns 2) (natural_at ns 3)
line_with form.Mult ns = Mult (natural_at ns 0) (natural_at ns 1)
line_with form.ClaimOptimal ns = ClaimOptimal (number_at ns 0) (natural_at ns 1)
line_with form.ClaimInfeasible ns = ClaimInfeasible
line_with form.ClaimBetween ns = ClaimBetween (number_at ns 0) (number_at ns 1) (natural_at ns 2)
line_with form.ClaimBelow ns = ClaimBelow (number_at ns 0)
line_with form.End ns = End

-- the tests of `IsLine`
abbrev pub is_in_range : Line → Bool
is_in_range (Header version) = nat_le 1 version && (nat_le version 4 && not (version == 3))
is_in_range (Value _ quanta) = nat_le 1 quanta && nat_le quanta 255
is_in_range (Split _ max _ _) = nat_le max 254
is_in_range (Mult _ factor) = nat_le 1 factor
is_in_range _ = true

abbrev pub is_line : Line → Bool
is_line line = list_all (λ number. nat_lt (unsigned_abs number) (10 ^ 30)) (line_numbers line) && is_in_range line

-- the bytes are the text of the line, which may be written
unfoldable pub is_text : List ℕ → Line → Bool
is_text bytes line = is_line line && bytes_eq (line_text line) bytes

-- the line that the bytes are, if they are one: that of the form whose text with the numbers after its words they are
unfoldable pub line_said : List ℕ → Option Line
line_said bytes =
    option_map (λ form. line_with form (numbers_after form bytes))
    (find (λ form. is_text bytes (line_with form (numbers_after form bytes))) all_forms)
