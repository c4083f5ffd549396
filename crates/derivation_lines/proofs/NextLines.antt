-- What stands next behind lines of derivations.
use Rattle.std.proofs.Common.{◌≡◌, ◌≢◌, ℕ, ◌+◌, ◌<◌, List, [], ◌∷◌, ◌++◌, length, length-append, drop, Option, Some, None, IfSome, subst, sym, ap, ◌∙◌, arith}
use Rattle.std.specs.Option.{option_map_or}
use Rattle.log_lines.specs.Reader.{line_length}
use Rattle.stn_edge.specs.Files.{FileMap, file_of}
use Rattle.sum_lines.specs.declared.walk.Walk.{Walk}
use Rattle.sum_lines.specs.Front.{BeginsWith, EndsEarly}
use Rattle.sum_lines.specs.Walk.{HasStepped, IsAfter}
use Rattle.sum_lines.proofs.Feeds.{begins_line, line_late, long_late, long_none}
use Rattle.sum_lines.proofs.Walks.{next_is}
use Rattle.derivation_lines.specs.declared.line.TailLine.{TailLine}
use Rattle.derivation_lines.specs.declared.seen.Seen.TheVariants as seen
use Rattle.derivation_lines.specs.Front.{NoneFirst}
use Rattle.derivation_lines.specs.Line.{IsLineOf, IsTailLine, tail_line_text}
use Rattle.derivation_lines.specs.Tail.{lines_text}
use Rattle.derivation_lines.specs.laws.Walk.{HasPassed, HasSeen, rest_after}
use Rattle.derivation_lines.proofs.LineTexts.{lines_text-more}
use Rattle.derivation_lines.proofs.Lines.{text_fits, text_unique}

-- a line that is none of a derivation
other_told : (files : Option FileMap) (name : List ℕ) (start : ℕ) (lines : List TailLine) (old new : Walk) → HasStepped files name start (lines_text lines) old new → ((line : TailLine) → IsTailLine line → tail_line_text line ≢ new.reader.line)
    → IfSome files (λ m. (¬ EndsEarly (rest_after start lines (file_of m name))) × NoneFirst IsTailLine (rest_after start lines (file_of m name)))
other_told None name start lines old new stepped none = tt
other_told (Some m) name start lines old new stepped none =
    let file = file_of m name in
    let line = new.reader.line in
    let after = drop (start + length (lines_text lines ++ (line ++ 10 ∷ []))) file in
    let next : rest_after start lines file ≡ line ++ 10 ∷ after = next_is start (lines_text lines) line file stepped.after.told.0 in (
      line_late line (rest_after start lines file) after next,
      λ other is first. none other is (begins_line (tail_line_text other) line (rest_after start lines file) after (text_fits other is).0 stepped.no_feed next first),
    )

-- a line that is too long
pub long_told : (files : Option FileMap) (name : List ℕ) (start : ℕ) (lines : List TailLine) → IfSome files (λ m. 200 < line_length (rest_after start lines (file_of m name)))
    → IfSome files (λ m. (¬ EndsEarly (rest_after start lines (file_of m name))) × NoneFirst IsTailLine (rest_after start lines (file_of m name)))
long_told None name start lines long = tt
long_told (Some m) name start lines long =
    let rest = rest_after start lines (file_of m name) in
    (long_late rest long, λ line is first. long_none (tail_line_text line) rest (text_fits line is).1 long first)

-- a walk that has passed a line
line_passed : (files : Option FileMap) (name : List ℕ) (start number : ℕ) (lines : List TailLine) (line : TailLine) (old new : Walk) → HasPassed files name start number lines old → HasStepped files name start (lines_text lines) old new → tail_line_text line ≡ new.reader.line
    → HasPassed files name start number (lines ++ line ∷ []) new
line_passed files name start number lines line old new passed stepped text =
    let same : lines_text lines ++ (new.reader.line ++ 10 ∷ []) ≡ lines_text (lines ++ line ∷ []) = ap (λ w. lines_text lines ++ (w ++ 10 ∷ [])) (sym text) ∙ sym (lines_text-more lines line) in
    record {
      line = omega (arith, passed.line, stepped.count, length-append lines (line ∷ []));
      after = subst (λ t. IsAfter files name start t new) same stepped.after;
    }

-- what is seen of a whole line
pub whole_seen : (files : Option FileMap) (name : List ℕ) (start number : ℕ) (lines : List TailLine) (old new : Walk) (answer : Option TailLine) → HasPassed files name start number lines old → HasStepped files name start (lines_text lines) old new
    → IsLineOf new.reader.line answer → HasSeen files name start number lines new (option_map_or seen.Line answer seen.Other)
whole_seen files name start number lines old new (Some line) passed stepped looked = (looked.0, line_passed files name start number lines line old new passed stepped looked.1)
whole_seen files name start number lines old new None passed stepped looked = other_told files name start lines old new stepped looked

-- ---- the line that was seen

-- the line that a walk has passed stood first in what was left
pub line_first : (m : FileMap) (name : List ℕ) (start number : ℕ) (lines : List TailLine) (line : TailLine) (walk : Walk) → HasPassed (Some m) name start number (lines ++ line ∷ []) walk
    → rest_after start lines (file_of m name) ≡ tail_line_text line ++ 10 ∷ rest_after start (lines ++ line ∷ []) (file_of m name)
line_first m name start number lines line walk passed =
    let file = file_of m name in
    let text = lines_text lines ++ (tail_line_text line ++ 10 ∷ []) in
    let same : lines_text (lines ++ line ∷ []) ≡ text = lines_text-more lines line in
    next_is start (lines_text lines) (tail_line_text line) file (subst (λ t. drop start file ≡ t ++ drop (start + length t) file) same passed.after.told.0)
    ∙ ap (λ t. tail_line_text line ++ 10 ∷ drop (start + length t) file) (sym same)

-- a line that stands first where another line does is that
pub first_same : (a b : TailLine) (bytes after : List ℕ) → IsTailLine a → IsTailLine b → bytes ≡ tail_line_text b ++ 10 ∷ after → BeginsWith (tail_line_text a) bytes → a ≡ b
first_same a b bytes after is is2 next first = text_unique a b is is2 (begins_line (tail_line_text a) (tail_line_text b) bytes after (text_fits a is).0 (text_fits b is2).0 next first)
