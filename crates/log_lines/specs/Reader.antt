-- How a file is read line by line.
use Rattle.std.specs.Prelude.{◌≡◌, ◌≢◌, ◌+◌, ◌<◌, ◌≤◌, ◌==◌, ℕ, Bool, true, false, if◌then◌else◌, Option, None, Some, List, [], ◌∷◌, ◌++◌, All, take, drop, length, refl}
use Rattle.std.specs.Coded.{Coded, code_by, coded×, coded_ℕ, coded_list}
use Rattle.std.specs.List.{position_or_len}
use Rattle.log_lines.specs.declared.reader.LineEnd.{LineEnd}
use Rattle.log_lines.specs.declared.reader.LineEnd.TheVariants.{Whole, Cut, Long, Nothing}

-- a place in a file, and bytes from there on that are held
pub record Held : Type 0 where
  pub place : ℕ
  pub bytes : List ℕ

abbrev pub held_code : Coded Held
held_code =
    code_by (ℕ × List ℕ) (coded× coded_ℕ (coded_list coded_ℕ)) (λ h. (h.place, h.bytes)) (λ p. record { place = p.0; bytes = p.1 }) (λ _. refl)

-- what a reader of lines shows: its place in the file and the bytes that it holds from there on, the bytes of its line, and
-- whether it has ended
pub record Reading : Type 0 where
  pub place : ℕ
  pub ahead : List ℕ
  pub line : List ℕ
  pub ended : Bool

-- the bytes are those of the file from the place on
abbrev pub IsAhead : List ℕ → ℕ → List ℕ → Type 0
IsAhead file place bytes = bytes ≡ take (length bytes) (drop place file)

-- a reader at the first byte of a file
abbrev pub new_reading : Reading
new_reading = record { place = 0; ahead = []; line = []; ended = false }

-- no byte is a line feed (10)
abbrev pub HasNoFeed : List ℕ → Type 0
HasNoFeed bytes = All (λ byte. byte ≢ 10) bytes

-- how many bytes stand before the first line feed, or all where there is none
abbrev pub line_length : List ℕ → ℕ
line_length bytes = position_or_len (λ byte. byte == 10) bytes

-- the next byte of the file, and the place after it: None at the end
abbrev pub GivesByte : List ℕ → Held → Held → Option ℕ → Type 0
GivesByte file old new None = drop old.place file ≡ []
GivesByte file old new (Some byte) = (drop old.place file ≡ byte ∷ drop new.place file) × IsAhead file new.place new.bytes

-- how the bytes of a part end: what of the file was read is the part, and a line feed after a whole one
abbrev pub EndsPart : List ℕ → ℕ → Held → List ℕ → LineEnd → Type 0
EndsPart file place new part Whole = (drop place file ≡ part ++ 10 ∷ drop new.place file) × IsAhead file new.place new.bytes
EndsPart file place new part Cut = drop place file ≡ part
EndsPart file place new part Long = 200 < line_length (drop place file)
EndsPart file place new part Nothing = drop place file ≡ []

-- the part that was read, whatever the file is
abbrev pub IsLinePart : ℕ → ℕ → List ℕ → LineEnd → Type 0
IsLinePart place next part Whole = (length part ≤ 200) × HasNoFeed part × (next ≡ place + length part + 1)
IsLinePart place next part Cut = (0 < length part) × (length part ≤ 200) × HasNoFeed part
IsLinePart place next part Long = Unit {0}
IsLinePart place next part Nothing = Unit {0}

-- how a line ends at the file's end, after so many bytes
abbrev pub file_end : ℕ → LineEnd
file_end count = if count == 0 then Nothing else Cut

-- how a line of the file ends: what stands from the place on is the line, and after a whole one a line feed and what stands from
-- the new place on; or more than 200 bytes come before a line feed or the end; or nothing
abbrev pub EndsLine : List ℕ → Reading → Reading → LineEnd → Type 0
EndsLine file old new Whole = (drop old.place file ≡ new.line ++ 10 ∷ drop new.place file) × IsAhead file new.place new.ahead
EndsLine file old new Cut = drop old.place file ≡ new.line
EndsLine file old new Long = 200 < line_length (drop old.place file)
EndsLine file old new Nothing = drop old.place file ≡ []

-- the same, whatever the file is: a line has at most 200 bytes and no line feed, the place is past a whole line, and the reader
-- has ended after everything else
abbrev pub IsEnd : Reading → Reading → LineEnd → Type 0
IsEnd old new Whole = (new.ended ≡ false) × IsLinePart old.place new.place new.line Whole
IsEnd old new Cut = (new.ended ≡ true) × IsLinePart old.place new.place new.line Cut
IsEnd old new Long = (new.ended ≡ true) × (new.line ≡ old.line)
IsEnd old new Nothing = (new.ended ≡ true) × (new.line ≡ old.line)
