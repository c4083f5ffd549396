use Rattle.std.proofs.Common.{◌≡◌, subst}
use Rattle.log_lines.specs.declared.defect.Defect.{Defect}
use Rattle.derivation_lines.specs.Front.{next_part}
use Rattle.derivation_lines.specs.laws.Parts.{HasBadPart}
use Rattle.derivation_lines.specs.laws.Walk.{HasSeen}
use Rattle.derivation_lines.proofs.PartsRead.{part_bad}
use Rattle.derivation_lines.proofs.parts.next_piece.Goals as goal

pub returns-in-Ok-clause-goes : goal.returns-in-Ok-clause-goes
returns-in-Ok-clause-goes g c start number lines passed =
    (subst (HasSeen (g.F.Shelf.files c.args.files.now) c.args.name.now start number lines c.next_line.new.walk) c.in-Ok.ensures.0 (c.in_ok-seen.ensures.seen start number lines passed)).1

pub returns-in-Err-clause-bad : goal.returns-in-Err-clause-bad
returns-in-Err-clause-bad g c defect is start number lines passed =
    let files = g.F.Shelf.files c.args.files.now in
    let name = c.args.name.now in
    let made : Defect = record { line = c.args.walk.now.line; kind = c.in-Err.kind } in
    let same : made ≡ defect = cc in
    let derived = c.args.derived.now in
    subst (HasBadPart files name start number c.args.reach.slots c.args.reach.rows derived (next_part derived c.args.counts.now) lines) same
    (subst (λ n. HasBadPart files name start number c.args.reach.slots c.args.reach.rows derived n lines made) c.next_part-next.ensures
    (part_bad files name start number lines c.args.walk.now c.next_line.new.walk c.in_ok-seen.seen c.args.reach.slots c.args.reach.rows derived c.next_part-next.result c.in-Err.kind passed (c.in_ok-seen.ensures.seen start number lines passed) c.in-Err.ensures))
