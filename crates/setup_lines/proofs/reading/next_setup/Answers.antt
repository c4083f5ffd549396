use Rattle.std.proofs.Common.{◌≡◌, ℕ, [], ◌∷◌, Option, IfSome, sym, subst, drop}
use Rattle.log_lines.specs.declared.defect.Defect.{Defect}
use Rattle.stn_edge.specs.Files.{file_of}
use Rattle.setup_lines.specs.Front.{IsBadAt}
use Rattle.setup_lines.specs.laws.Walk.{HasSeen}
use Rattle.setup_lines.proofs.Fronts.{none_begins, setup_bad}
use Rattle.setup_lines.proofs.reading.next_setup.Goals as goal

pub returns-in-Nothing-clause-ends : goal.returns-in-Nothing-clause-ends
returns-in-Nothing-clause-ends g c is start number units passed =
    none_begins (g.F.Shelf.files c.args.files.now) c.args.name.now start number units c.next_unit.new.walk c.in_ok-seen.seen c.args.limits.now c.args.sizes.now c.args.above (c.in_ok-seen.ensures.seen start number units passed) c.in-Nothing.ensures

pub returns-in-Bad-clause-bad : goal.returns-in-Bad-clause-bad
returns-in-Bad-clause-bad g c defect is start number units passed =
    let files = g.F.Shelf.files c.args.files.now in
    let name = c.args.name.now in
    let limits = c.args.limits.now in
    let sizes = c.args.sizes.now in
    let above = c.args.above in
    let made : Defect = record { line = c.line_number-line.result; kind = c.in-Bad.kind } in
    let same : made ≡ defect = cc in
    let begun = c.in-Bad.ensures in
    let has = subst (HasSeen files name start number units c.next_unit.new.walk) begun.1 (c.in_ok-seen.ensures.seen start number units passed) in
    subst (λ d. IfSome files (λ m. IsBadAt limits sizes above number units (drop start (file_of m name)) d)) same
    (subst (λ (n : ℕ). IfSome files (λ m. IsBadAt limits sizes above number units (drop start (file_of m name)) (record { line = n; kind = c.in-Bad.kind }))) (sym c.line_number-line.ensures.is)
    (setup_bad files name start number units c.args.walk.now c.next_unit.new.walk begun.0 limits sizes above c.in-Bad.kind passed has begun.2 begun.3))

pub returns-in-Unit-clause-goes : goal.returns-in-Unit-clause-goes
returns-in-Unit-clause-goes g c start number units passed =
    (subst (HasSeen (g.F.Shelf.files c.args.files.now) c.args.name.now start number units c.next_unit.new.walk) c.in-Unit.ensures.0 (c.in_ok-seen.ensures.seen start number units passed)).1
