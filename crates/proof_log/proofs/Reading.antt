-- A file that is read line by line, where the store may not tell it.
use Rattle.std.proofs.Common.{◌≡◌, ℕ, ◌+◌, List, [], ◌∷◌, ◌++◌, drop, Option, Some, None, IfSome, refl, ap, sym, ◌∙◌, append_assoc}
use Rattle.std.proofs.lemmas.List.{append-nil}
use Rattle.stn_edge.specs.Files.{FileMap, file_of}
use Rattle.log_lines.specs.declared.grammar.Limits.{Limits}
use Rattle.log_lines.specs.declared.line.Line.{Line}
use Rattle.log_lines.specs.declared.reader.LineEnd.{LineEnd}
use Rattle.log_lines.specs.declared.reader.LineEnd.TheVariants.{Whole, Cut, Long, Nothing}
use Rattle.log_lines.specs.Grammar.{Standing, new_standing}
use Rattle.log_lines.specs.Line.{line_text}
use Rattle.log_lines.specs.Reader.{Reading, EndsLine, IsAhead}
use Rattle.log_lines.specs.TextDefect.{log_text_defect}
use Rattle.proof_log.specs.Behind.{behind}
use Rattle.proof_log.specs.Log.{lines_text}
use Rattle.proof_log.specs.LogReading.{IsReadTo, IsDefectOfRest}
use Rattle.proof_log.specs.Text.{EndsAs, rest_defect}
use Rattle.proof_log.proofs.Lines.{lines_text-append, lines_text-one, lines_text-none}

-- how the bytes that are left end, where a line of the file does
pub ends_as : (file : List ℕ) (old new : Reading) (end : LineEnd) → EndsLine file old new end → EndsAs (drop old.place file) new.line end (drop new.place file)
ends_as file old new Whole is = is.0
ends_as file old new Cut is = is
ends_as file old new Long is = is
ends_as file old new Nothing is = is

lines_text-more : (lines : List Line) (line : Line) → lines_text (lines ++ line ∷ []) ≡ lines_text lines ++ (line_text line ++ 10 ∷ [])
lines_text-more lines line = lines_text-append lines (line ∷ []) ∙ ap (λ t. lines_text lines ++ t) (lines_text-one line)

-- how a line of a told file ends
abbrev pub ToldEnd : Option FileMap → List ℕ → Reading → Reading → LineEnd → Type 0
ToldEnd told name old new end = IfSome told (λ m. EndsLine (file_of m name) old new end)

-- at its first byte
pub read_begun : (told : Option FileMap) (name : List ℕ) (version : ℕ) → IsReadTo told name version 0 [] 0
read_begun None name version = tt
read_begun (Some m) name version = ap (λ t. t ++ file_of m name) (sym lines_text-none)

pub left_begun : (told : Option FileMap) (name : List ℕ) (version : ℕ) (limits : Limits) → IsDefectOfRest told name version 0 limits new_standing 1 0
left_begun None name version limits = tt
left_begun (Some m) name version limits = refl

pub ahead_begun : (told : Option FileMap) (name : List ℕ) → IfSome told (λ m. IsAhead (file_of m name) 0 [])
ahead_begun None name = tt
ahead_begun (Some m) name = refl

-- after a whole line
pub read_more : (told : Option FileMap) (name : List ℕ) (version head : ℕ) (lines : List Line) (line : Line) (old new : Reading) → IsReadTo told name version head lines old.place → ToldEnd told name old new Whole → line_text line ≡ new.line → IsReadTo told name version head (lines ++ line ∷ []) new.place
read_more None name version head lines line old new read ends text = tt
read_more (Some m) name version head lines line old new read ends text =
    let later = drop new.place (file_of m name) in
    let front : lines_text lines ++ drop old.place (file_of m name) ≡ lines_text lines ++ (new.line ++ 10 ∷ later) = ap (λ t. lines_text lines ++ t) ends.0 in
    let whole : lines_text (lines ++ line ∷ []) ≡ lines_text lines ++ (new.line ++ 10 ∷ []) = lines_text-more lines line ∙ ap (λ t. lines_text lines ++ (t ++ 10 ∷ [])) text in
    let joined : (lines_text lines ++ (new.line ++ 10 ∷ [])) ++ later ≡ lines_text lines ++ (new.line ++ 10 ∷ later) = append_assoc (lines_text lines) (new.line ++ 10 ∷ []) later ∙ ap (λ t. lines_text lines ++ t) (append_assoc new.line (10 ∷ []) later) in
    read ∙ (front ∙ (sym joined ∙ ap (λ t. t ++ later) (sym whole)))

pub left_more : (told : Option FileMap) (name : List ℕ) (version head : ℕ) (limits : Limits) (standing later : Standing) (number : ℕ) (old new : Reading) (end : LineEnd) → IsDefectOfRest told name version head limits standing number old.place → ToldEnd told name old new end
    → ((rest after : List ℕ) → EndsAs rest new.line end after → rest_defect limits standing number rest ≡ rest_defect limits later (number + 1) after) → IsDefectOfRest told name version head limits later (number + 1) new.place
left_more None name version head limits standing later number old new end left ends goes = tt
left_more (Some m) name version head limits standing later number old new end left ends goes =
    left ∙ goes (drop old.place (file_of m name)) (drop new.place (file_of m name)) (ends_as (file_of m name) old new end ends)

pub ahead_more : (told : Option FileMap) (name : List ℕ) (old new : Reading) → ToldEnd told name old new Whole → IfSome told (λ m. IsAhead (file_of m name) new.place new.ahead)
ahead_more None name old new ends = tt
ahead_more (Some m) name old new ends = ends.1

-- at a defect
pub left_bad : (told : Option FileMap) (name : List ℕ) (version head : ℕ) (limits : Limits) (standing : Standing) (number : ℕ) (defect : ℕ × ℕ) (old new : Reading) (end : LineEnd) → IsDefectOfRest told name version head limits standing number old.place → ToldEnd told name old new end
    → ((rest after : List ℕ) → EndsAs rest new.line end after → rest_defect limits standing number rest ≡ Some defect) → IfSome told (λ m. log_text_defect limits (behind version head (file_of m name)) ≡ Some defect)
left_bad None name version head limits standing number defect old new end left ends is = tt
left_bad (Some m) name version head limits standing number defect old new end left ends is =
    left ∙ is (drop old.place (file_of m name)) (drop new.place (file_of m name)) (ends_as (file_of m name) old new end ends)

-- at the end of the log, with which the file ends
pub read_over : (told : Option FileMap) (name : List ℕ) (version head : ℕ) (limits : Limits) (lines : List Line) (standing : Standing) (number : ℕ) (old new : Reading) (end : LineEnd) → IsReadTo told name version head lines old.place → IsDefectOfRest told name version head limits standing number old.place → ToldEnd told name old new end
    → ((rest after : List ℕ) → EndsAs rest new.line end after → (rest_defect limits standing number rest ≡ None) × (rest ≡ [])) → IfSome told (λ m. (behind version head (file_of m name) ≡ lines_text lines) × (log_text_defect limits (behind version head (file_of m name)) ≡ None))
read_over None name version head limits lines standing number old new end read left ends is = tt
read_over (Some m) name version head limits lines standing number old new end read left ends is =
    let both = is (drop old.place (file_of m name)) (drop new.place (file_of m name)) (ends_as (file_of m name) old new end ends) in
    (read ∙ ap (λ t. lines_text lines ++ t) both.1 ∙ append-nil (lines_text lines), left ∙ both.0)
