-- What stands next behind the lines of setups.
use Rattle.std.proofs.Common.{◌≡◌, ◌≢◌, ℕ, ◌+◌, ◌<◌, List, [], ◌∷◌, ◌++◌, length, length-append, drop, Option, Some, None, IfSome, subst, sym, ap, ◌∙◌, refl, arith}
use Rattle.log_lines.specs.declared.reader.LineEnd.{LineEnd}
use Rattle.log_lines.specs.declared.reader.LineEnd.TheVariants.{Whole, Cut, Long, Nothing}
use Rattle.stn_edge.specs.Files.{FileMap, file_of}
use Rattle.sum_lines.specs.declared.walk.Walk.{Walk}
use Rattle.sum_lines.specs.Line.{IsShort}
use Rattle.sum_lines.specs.Walk.{HasStepped, IsAfter, IsStepped}
use Rattle.sum_lines.proofs.Feeds.{begins_line, begins_none, long_none}
use Rattle.sum_lines.proofs.Walks.{next_is}
use Rattle.setup_lines.specs.Front.{NoneFirst}
use Rattle.setup_lines.specs.Line.{IsUnitOf, setup_line, setups_text}
use Rattle.setup_lines.specs.laws.Walk.{HasPassed, HasSeen, rest_after}
use Rattle.setup_lines.proofs.Lines.{line_fits, text-more}

-- a whole line that is none of a setup
line_none : (files : Option FileMap) (name : List ℕ) (start : ℕ) (units : List ℕ) (old new : Walk) → HasStepped files name start (setups_text units) old new → ((unit : ℕ) → IsShort unit → setup_line unit ≢ new.reader.line)
    → IfSome files (λ m. NoneFirst IsShort (rest_after start units (file_of m name)))
line_none None name start units old new stepped none = tt
line_none (Some m) name start units old new stepped none = λ unit short first.
    let file = file_of m name in
    let line = new.reader.line in
    let after = drop (start + length (setups_text units ++ (line ++ 10 ∷ []))) file in
    none unit short (begins_line (setup_line unit) line (rest_after start units file) after (line_fits unit short).0 stepped.no_feed (next_is start (setups_text units) line file stepped.after.told.0) first)

-- what is no whole line
pub end_none : (files : Option FileMap) (name : List ℕ) (start : ℕ) (units : List ℕ) (old new : Walk) (end : LineEnd) → end ≢ Whole → IsStepped files name start (setups_text units) old new end → IfSome files (λ m. NoneFirst IsShort (rest_after start units (file_of m name)))
end_none None name start units old new end other stepped = tt
end_none (Some m) name start units old new Whole other stepped = absurd (other refl)
end_none (Some m) name start units old new Cut other stepped = λ unit short first. begins_none (setup_line unit) (rest_after start units (file_of m name)) stepped.0 first
end_none (Some m) name start units old new Long other stepped = λ unit short first. long_none (setup_line unit) (rest_after start units (file_of m name)) (line_fits unit short).1 stepped first
end_none (Some m) name start units old new Nothing other stepped = λ unit short first. begins_none (setup_line unit) (rest_after start units (file_of m name)) stepped.0 first

-- a walk that has passed the line of a unit
line_passed : (files : Option FileMap) (name : List ℕ) (start number : ℕ) (units : List ℕ) (unit : ℕ) (old new : Walk) → HasPassed files name start number units old → HasStepped files name start (setups_text units) old new → setup_line unit ≡ new.reader.line
    → HasPassed files name start number (units ++ unit ∷ []) new
line_passed files name start number units unit old new passed stepped text =
    let same : setups_text units ++ (new.reader.line ++ 10 ∷ []) ≡ setups_text (units ++ unit ∷ []) = ap (λ w. setups_text units ++ (w ++ 10 ∷ [])) (sym text) ∙ sym (text-more units unit) in
    record {
      line = omega (arith, passed.line, stepped.count, length-append units (unit ∷ []));
      after = subst (λ t. IsAfter files name start t new) same stepped.after;
    }

-- what is seen of a whole line
pub whole_seen : (files : Option FileMap) (name : List ℕ) (start number : ℕ) (units : List ℕ) (old new : Walk) (answer : Option ℕ) → HasPassed files name start number units old → HasStepped files name start (setups_text units) old new → IsUnitOf new.reader.line answer
    → HasSeen files name start number units new answer
whole_seen files name start number units old new None passed stepped none = line_none files name start units old new stepped none
whole_seen files name start number units old new (Some unit) passed stepped is = (is.0, line_passed files name start number units unit old new passed stepped is.1)

-- the line that a walk has passed stood first in what was left
pub line_first : (m : FileMap) (name : List ℕ) (start number : ℕ) (units : List ℕ) (unit : ℕ) (walk : Walk) → HasPassed (Some m) name start number (units ++ unit ∷ []) walk
    → rest_after start units (file_of m name) ≡ setup_line unit ++ 10 ∷ rest_after start (units ++ unit ∷ []) (file_of m name)
line_first m name start number units unit walk passed =
    let file = file_of m name in
    let text = setups_text units ++ (setup_line unit ++ 10 ∷ []) in
    let same : setups_text (units ++ unit ∷ []) ≡ text = text-more units unit in
    next_is start (setups_text units) (setup_line unit) file (subst (λ t. drop start file ≡ t ++ drop (start + length t) file) same passed.after.told.0)
    ∙ ap (λ t. setup_line unit ++ 10 ∷ drop (start + length t) file) (sym same)
