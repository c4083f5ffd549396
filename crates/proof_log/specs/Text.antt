-- The bytes of a log that are left, and how its next line ends.
use Rattle.std.specs.Prelude.{◌≡◌, ◌<◌, ◌==◌, ℕ, List, [], ◌∷◌, ◌++◌, Option}
use Rattle.std.specs.List.{slice_split}
use Rattle.log_lines.specs.declared.grammar.Limits.{Limits}
use Rattle.log_lines.specs.declared.reader.LineEnd.{LineEnd}
use Rattle.log_lines.specs.declared.reader.LineEnd.TheVariants.{Whole, Cut, Long, Nothing}
use Rattle.log_lines.specs.Grammar.{Standing}
use Rattle.log_lines.specs.Reader.{line_length}
use Rattle.log_lines.specs.TextDefect.{text_defect}

-- the first defect of the bytes that are left, from the line of a number on
abbrev pub rest_defect : Limits → Standing → ℕ → List ℕ → Option (ℕ × ℕ)
rest_defect limits standing number rest = text_defect limits standing number (slice_split (λ byte. byte == 10) rest)

-- how the next line of these bytes ends, and the bytes after it
abbrev pub EndsAs : List ℕ → List ℕ → LineEnd → List ℕ → Type 0
EndsAs rest part Whole after = rest ≡ part ++ 10 ∷ after
EndsAs rest part Cut after = rest ≡ part
EndsAs rest part Long after = 200 < line_length rest
EndsAs rest part Nothing after = rest ≡ []
