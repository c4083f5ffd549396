-- A walk over the lines of a file, from a place on.
use Rattle.std.specs.Prelude.{◌≡◌, ◌+◌, ◌<◌, ◌≤◌, ℕ, false, Option, IfSome, List, [], ◌∷◌, ◌++◌, length, drop}
use Rattle.log_lines.specs.Reader.{HasNoFeed, IsAhead, Reading, line_length}
use Rattle.log_lines.specs.declared.reader.LineEnd.{LineEnd}
use Rattle.log_lines.specs.declared.reader.LineEnd.TheVariants.{Whole, Cut, Long, Nothing}
use Rattle.stn_edge.specs.Files.{FileMap, file_of}
use Rattle.sum_lines.specs.declared.walk.Walk.{Walk}
use Rattle.sum_lines.specs.Front.{EndsEarly}

-- a text stands in a file from a place on, and a reader stands behind it
abbrev pub IsBehind : ℕ → List ℕ → Reading → List ℕ → Type 0
IsBehind start text reader file =
    (drop start file ≡ text ++ drop (start + length text) file) × IsAhead file reader.place reader.ahead

-- a walk has passed a text, which stands from a place on in the file of a name, where that is told
pub record IsAfter (files : Option FileMap) (name : List ℕ) (start : ℕ) (text : List ℕ) (walk : Walk) : Type 0 where
  pub going : walk.reader.ended ≡ false
  pub bytes : walk.bytes ≡ start + length text
  pub place : walk.reader.place ≡ walk.bytes
  pub told : IfSome files (λ m. IsBehind start text walk.reader (file_of m name))

-- a line without a line feed, of at most 200 bytes, was passed behind a text
pub record HasStepped (files : Option FileMap) (name : List ℕ) (start : ℕ) (text : List ℕ) (old new : Walk) : Type 0 where
  pub short : length new.reader.line ≤ 200
  pub no_feed : HasNoFeed new.reader.line
  pub count : new.line ≡ old.line + 1
  pub after : IsAfter files name start (text ++ (new.reader.line ++ 10 ∷ [])) new

-- what follows behind a text: a whole line, which was passed; more than 200 bytes before a line feed; or the end of the file before a line feed
abbrev pub IsStepped : Option FileMap → List ℕ → ℕ → List ℕ → Walk → Walk → LineEnd → Type 0
IsStepped files name start text old new Whole = HasStepped files name start text old new
IsStepped files name start text old new Long = IfSome files (λ m. 200 < line_length (drop (start + length text) (file_of m name)))
IsStepped files name start text old new Cut = IfSome files (λ m. EndsEarly (drop (start + length text) (file_of m name)))
IsStepped files name start text old new Nothing = IfSome files (λ m. EndsEarly (drop (start + length text) (file_of m name)))
