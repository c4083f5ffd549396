-- Stands in specs/ since clauses of private functions cite it; no public clause does.
-- A walk over the lines of derivations in a file, from a place on.
use Rattle.std.specs.Prelude.{◌≡◌, ⊤, ◌+◌, ℕ, Option, IfSome, List, [], ◌∷◌, ◌++◌, length, drop}
use Rattle.stn_edge.specs.Files.{FileMap, file_of}
use Rattle.sum_lines.specs.declared.walk.Walk.{Walk}
use Rattle.sum_lines.specs.Front.{EndsEarly}
use Rattle.sum_lines.specs.Walk.{IsAfter}
use Rattle.derivation_lines.specs.declared.line.TailLine.{TailLine}
use Rattle.derivation_lines.specs.declared.seen.Seen.{Seen}
use Rattle.derivation_lines.specs.declared.seen.Seen.TheVariants as seen
use Rattle.derivation_lines.specs.Front.{NoneFirst}
use Rattle.derivation_lines.specs.Line.{IsTailLine}
use Rattle.derivation_lines.specs.Tail.{lines_text}

-- what is left of a file after lines that stand from a place on
abbrev pub rest_after : ℕ → List TailLine → List ℕ → List ℕ
rest_after start lines file = drop (start + length (lines_text lines)) file

-- a walk over the file of a name, where it is told, has passed these lines, which stand from a place on, and the first of which has a number
pub record HasPassed (files : Option FileMap) (name : List ℕ) (start number : ℕ) (lines : List TailLine) (walk : Walk) : Type 0 where
  pub line : walk.line ≡ number + length lines
  pub after : IsAfter files name start (lines_text lines) walk

-- what is seen after these lines: the next one, which may be written; or another, which no line of a derivation is; or the end of the file before a line feed
abbrev pub HasSeen : Option FileMap → List ℕ → ℕ → ℕ → List TailLine → Walk → Seen → Type 0
HasSeen told name start number lines walk (seen.Line line) = IsTailLine line × HasPassed told name start number (lines ++ line ∷ []) walk
HasSeen told name start number lines walk seen.Other =
    IfSome told (λ m. (¬ EndsEarly (rest_after start lines (file_of m name))) × NoneFirst IsTailLine (rest_after start lines (file_of m name)))
HasSeen told name start number lines walk seen.Cut = IfSome told (λ m. EndsEarly (rest_after start lines (file_of m name)))

-- a line that is seen may be written
abbrev pub MayBeSeen : Seen → Type 0
MayBeSeen (seen.Line line) = IsTailLine line
MayBeSeen seen.Other = ⊤
MayBeSeen seen.Cut = ⊤
