-- Stands in specs/ since clauses of private functions cite it; no public clause does.
-- A walk over the lines of a head in a file.
use Rattle.std.specs.Prelude.{◌≡◌, ◌≢◌, ⊤, ◌⊎◌, ◌+◌, ◌<◌, ◌≤◌, ℕ, true, false, Option, Some, None, IfSome, unsigned_abs, List, [], ◌∷◌, ◌++◌, length, map, drop}
use Rattle.log_lines.specs.Grammar.{follows}
use Rattle.log_lines.specs.declared.grammar.Limits.{Limits}
use Rattle.log_lines.specs.declared.defect.Defect.{Defect}
use Rattle.row_kit.specs.Row.{is_nothing}
use Rattle.row_kit.specs.declared.row.Entry.{Entry}
use Rattle.stn_edge.specs.Files.{FileMap, file_of}
use Rattle.sum_lines.specs.declared.line.HeadLine.{HeadLine}
use Rattle.sum_lines.specs.declared.line.HeadLine.TheVariants as line
use Rattle.sum_lines.specs.declared.opening.Opened.{Opened}
use Rattle.sum_lines.specs.declared.opening.Opened.TheVariants as opened
use Rattle.sum_lines.specs.declared.walk.Seen.{Seen}
use Rattle.sum_lines.specs.declared.walk.Seen.TheVariants as seen
use Rattle.sum_lines.specs.declared.walk.Walk.{Walk}
use Rattle.sum_lines.specs.Front.{BeginsWith, EndsEarly, IsBadTerm, MayFollow, MayOpen, NoneFirst, opening_defect}
use Rattle.sum_lines.specs.Head.{AreTerms, IsHeadVersion, first_line, last_slot, opening_line, term_line, text_with}
use Rattle.sum_lines.specs.Line.{IsHeadLine, head_line_text}
use Rattle.sum_lines.specs.Walk.{IsAfter}

-- what is left of a file after the first line of a version and these
abbrev pub rest_after : ℕ → List HeadLine → List ℕ → List ℕ
rest_after version lines file = drop (length (text_with version lines)) file

-- a walk over the file of a name, where it is told, has passed the first line of a version and these lines
pub record HasPassed (files : Option FileMap) (name : List ℕ) (version : ℕ) (lines : List HeadLine) (walk : Walk) : Type 0 where
  pub line : walk.line ≡ 2 + length lines
  pub after : IsAfter files name 0 (text_with version lines) walk

-- a walk has passed the first line of a version; there is none where the file begins with that of no version
abbrev pub HasBegun : Option FileMap → List ℕ → Option (Walk × ℕ) → Type 0
HasBegun told name None = IfSome told (λ m. (¬ BeginsWith (first_line 3) (file_of m name)) × (¬ BeginsWith (first_line 4) (file_of m name)))
HasBegun told name (Some begun) = IsHeadVersion begun.1 × HasPassed told name begun.1 [] begun.0

-- what is seen after these lines: the next one, which may be written; or another, which no head line is; or the end of the file before a line feed
abbrev pub HasSeen : Option FileMap → List ℕ → ℕ → List HeadLine → Walk → Seen → Type 0
HasSeen told name version lines walk (seen.Line line) = IsHeadLine line × HasPassed told name version (lines ++ line ∷ []) walk
HasSeen told name version lines walk seen.Other =
    IfSome told (λ m. (¬ EndsEarly (rest_after version lines (file_of m name))) × NoneFirst IsHeadLine (rest_after version lines (file_of m name)))
HasSeen told name version lines walk seen.Cut = IfSome told (λ m. EndsEarly (rest_after version lines (file_of m name)))

-- what the bytes of a line are: a line of a head, or another
abbrev pub HasLooked : List ℕ → Seen → Type 0
HasLooked bytes (seen.Line line) = IsHeadLine line × (head_line_text line ≡ bytes)
HasLooked bytes seen.Other = (line : HeadLine) → IsHeadLine line → head_line_text line ≢ bytes
HasLooked bytes seen.Cut = ⊥

-- a line that is seen may be written
abbrev pub MayBeSeen : Seen → Type 0
MayBeSeen (seen.Line line) = IsHeadLine line
MayBeSeen seen.Other = ⊤
MayBeSeen seen.Cut = ⊤

-- a term that may come above the last slot: its slot is there, and its parts are those of a term
pub record IsTermAbove (slots : ℕ) (above : Option ℕ) (term : Entry) : Type 0 where
  pub there : term.slot < slots
  pub above_last : follows above term.slot ≡ true
  pub fixed : unsigned_abs term.fixed ≤ 10000000
  pub per : unsigned_abs term.per ≤ 10000000
  pub counts : is_nothing (term.fixed, term.per) ≡ false

-- a line names a slot that is not there
abbrev pub IsFar : ℕ → HeadLine → Type 0
IsFar slots (line.Sum _ _ _ _ _) = ⊥
IsFar slots (line.Term slot _ _) = slots ≤ slot

-- the kind of the defect of what is seen where a term is to come
abbrev pub IsTermKind : ℕ → Option ℕ → Seen → ℕ → Type 0
IsTermKind slots above seen.Cut kind = kind ≡ 2
IsTermKind slots above seen.Other kind = kind ≡ 1
IsTermKind slots above (seen.Line line) kind =
    ((kind ≡ 1) × (¬ MayFollow above line)) ⊎ ((kind ≡ 5) × MayFollow above line × IsFar slots line)

-- after these lines, where a term is to come above the last slot, the next line has this defect
pub record HasBadTerm (files : Option FileMap) (name : List ℕ) (version slots : ℕ) (above : Option ℕ) (lines : List HeadLine) (defect : Defect) : Type 0 where
  pub line : defect.line ≡ 2 + length lines
  pub told : IfSome files (λ m. (file_of m name ≡ text_with version lines ++ rest_after version lines (file_of m name))
      × IsBadTerm slots above (rest_after version lines (file_of m name)) defect.kind)

-- after these lines and fewer terms than so many, the next line has this defect
pub record HasBadTerms (files : Option FileMap) (name : List ℕ) (version slots count : ℕ) (lines : List HeadLine) (defect : Defect) : Type 0 where
  pub terms : List Entry
  pub are : AreTerms slots terms
  pub fewer : length terms < count
  pub bad : HasBadTerm files name version slots (last_slot None terms) (lines ++ map term_line terms) defect

-- what a line that is seen after so many sums begins: a sum, its defect, or nothing where it may begin none
abbrev pub IsOpened : ℕ → Limits → ℕ → Seen → Opened → Type 0
IsOpened version limits before shown (opened.Sum sum count) =
    (shown ≡ seen.Line (opening_line sum count)) × MayOpen limits.slots (opening_line sum count) × (opening_defect version limits before (opening_line sum count) ≡ None) × (sum.terms ≡ [])
IsOpened version limits before shown (opened.Bad kind) =
    (line : HeadLine) × (shown ≡ seen.Line line) × MayOpen limits.slots line × (opening_defect version limits before line ≡ Some kind)
IsOpened version limits before shown opened.Nothing = (line : HeadLine) → shown ≡ seen.Line line → ¬ MayOpen limits.slots line
