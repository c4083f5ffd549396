-- How wide a text of UTF-8 is, in columns of one letter: characters of three and four bytes are twice as wide.
use Rattle.std.specs.Prelude.{ℕ, ◌-◌, nat_le, nat_lt, if◌then◌else◌, List, [], ◌∷◌, sum_by}

-- how many columns a byte takes: none where it goes on with a character, two where it begins one of three or four bytes, else one
abbrev pub byte_columns : ℕ → ℕ
byte_columns byte = if nat_lt byte 128 then 1 else (if nat_lt byte 192 then 0 else (if nat_lt byte 224 then 1 else 2))

-- how many columns a text takes
abbrev pub columns : List ℕ → ℕ
columns text = sum_by byte_columns text

-- the longest beginning of a text, in whole characters, that has room in so many columns
abbrev pub beginning : ℕ → List ℕ → List ℕ
beginning room [] = []
beginning room (byte ∷ text) =
    if nat_le (byte_columns byte) room then byte ∷ beginning (room - byte_columns byte) text else []
