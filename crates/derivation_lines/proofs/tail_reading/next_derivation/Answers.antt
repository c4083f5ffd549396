use Rattle.std.proofs.Common.{◌≡◌, ℕ, [], ◌∷◌, ◌++◌, ◌+◌, Option, Err, IfSome, ap, sym, subst, drop}
use Rattle.log_lines.specs.declared.defect.Defect.{Defect}
use Rattle.stn_edge.specs.Files.{FileMap, file_of}
use Rattle.sum_lines.specs.declared.halt.Halt.TheVariants as halt
use Rattle.derivation_lines.specs.Front.{IsBadAt}
use Rattle.derivation_lines.specs.Tail.{part_lines, row_line}
use Rattle.derivation_lines.specs.laws.Parts.{HasBadParts}
use Rattle.derivation_lines.specs.laws.Walk.{HasPassed, HasSeen}
use Rattle.derivation_lines.proofs.TailsRead.{beginning_bad, none_begins, parts_bad, row_goes}
use Rattle.derivation_lines.proofs.tail_reading.next_derivation.Goals as goal

pub read_parts-requires-clause-passed : goal.read_parts-requires-clause-passed
read_parts-requires-clause-passed g c =
    let name = c.args.name.now in
    let p = c.requires.passed in
    let lines = p.2 ++ row_line c.in-Row.derived c.in-Row.counts ∷ [] in
    let has = subst (HasSeen (g.F.Shelf.files c.args.files.now) name p.0 p.1 p.2 c.next_line.new.walk) c.in-Row.ensures.0 (c.in_ok-seen.ensures.seen p.0 p.1 p.2 p.3) in
    (p.0, p.1, lines, subst (λ (f : Option FileMap). HasPassed f name p.0 p.1 lines c.next_line.new.walk) (sym c.next_line.ensures.frame.same) has.1)

pub returns-in-Nothing-clause-ends : goal.returns-in-Nothing-clause-ends
returns-in-Nothing-clause-ends g c is start number lines passed =
    none_begins (g.F.Shelf.files c.args.files.now) c.args.name.now start number lines c.next_line.new.walk c.in_ok-seen.seen c.args.limits.now c.args.before (c.in_ok-seen.ensures.seen start number lines passed) c.in-Nothing.ensures

pub returns-in-Bad-clause-bad : goal.returns-in-Bad-clause-bad
returns-in-Bad-clause-bad g c defect is start number lines passed =
    let files = g.F.Shelf.files c.args.files.now in
    let name = c.args.name.now in
    let made : Defect = record { line = c.line_number-line.result; kind = c.in-Bad.kind } in
    let same : made ≡ defect = cc in
    let begun = c.in-Bad.ensures in
    let has = subst (HasSeen files name start number lines c.next_line.new.walk) begun.1 (c.in_ok-seen.ensures.seen start number lines passed) in
    subst (λ d. IfSome files (λ m. IsBadAt c.args.limits.now c.args.before number lines (drop start (file_of m name)) d)) same
    (subst (λ (n : ℕ). IfSome files (λ m. IsBadAt c.args.limits.now c.args.before number lines (drop start (file_of m name)) (record { line = n; kind = c.in-Bad.kind }))) (sym c.line_number-line.ensures.is)
    (beginning_bad files name start number lines c.args.walk.now c.next_line.new.walk begun.0 c.args.limits.now c.args.before c.in-Bad.kind passed has begun.2 begun.3))

pub returns-in-Cut-clause-goes : goal.returns-in-Cut-clause-goes
returns-in-Cut-clause-goes g c start number lines passed =
    (subst (HasSeen (g.F.Shelf.files c.args.files.now) c.args.name.now start number lines c.next_line.new.walk) c.in-Cut.ensures.0 (c.in_ok-seen.ensures.seen start number lines passed)).1

pub returns-in-Ok-clause-goes : goal.returns-in-Ok-clause-goes
returns-in-Ok-clause-goes g c start number lines passed =
    let files = g.F.Shelf.files c.args.files.now in
    let name = c.args.name.now in
    let all = lines ++ row_line c.in-Row.derived c.in-Row.counts ∷ [] in
    let new = c.read_parts.new.derived in
    let has = subst (HasSeen files name start number lines c.next_line.new.walk) c.in-Row.ensures.0 (c.in_ok-seen.ensures.seen start number lines passed) in
    let there = subst (λ (f : Option FileMap). HasPassed f name start number all c.next_line.new.walk) (sym c.next_line.ensures.frame.same) has.1 in
    let goes = c.in-Ok.ensures.goes start number all there in
    row_goes files name start number lines c.in-Row.derived new c.in-Row.counts c.read_parts.new.walk c.in-Ok.ensures.head c.in-Ok.ensures.counts
    (subst (λ (f : Option FileMap). HasPassed f name start number (all ++ part_lines new) c.read_parts.new.walk) c.next_line.ensures.frame.same goes)

pub returns-in-Err-clause-bad : goal.returns-in-Err-clause-bad
returns-in-Err-clause-bad g c defect is start number lines passed =
    let files = g.F.Shelf.files c.args.files.now in
    let name = c.args.name.now in
    let limits = c.args.limits.now in
    let own : c.in-Err.halt ≡ halt.Bad defect = cc in
    let all = lines ++ row_line c.in-Row.derived c.in-Row.counts ∷ [] in
    let begun = c.in-Row.ensures in
    let has = subst (HasSeen files name start number lines c.next_line.new.walk) begun.0 (c.in_ok-seen.ensures.seen start number lines passed) in
    let there = subst (λ (f : Option FileMap). HasPassed f name start number all c.next_line.new.walk) (sym c.next_line.ensures.frame.same) has.1 in
    let bad = c.in-Err.ensures.bad defect (ap Err own) start number all there in
    parts_bad files name start number lines c.in-Row.derived c.in-Row.counts limits c.args.before defect
    (subst (λ (f : Option FileMap). HasBadParts f name start number limits.slots (limits.rows + c.args.before) c.in-Row.derived c.in-Row.counts all defect) c.next_line.ensures.frame.same bad) begun.1 begun.2
