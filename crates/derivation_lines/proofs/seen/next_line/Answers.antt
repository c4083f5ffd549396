use Rattle.std.proofs.Common.{subst, sym}
use Rattle.sum_lines.specs.Walk.{IsStepped}
use Rattle.derivation_lines.specs.Tail.{lines_text}
use Rattle.derivation_lines.specs.laws.Walk.{HasSeen}
use Rattle.derivation_lines.proofs.NextLines.{long_told, whole_seen}
use Rattle.derivation_lines.proofs.seen.next_line.Goals as goal

pub returns-in_ok-line-in-Whole-clause-seen : goal.returns-in_ok-line-in-Whole-clause-seen
returns-in_ok-line-in-Whole-clause-seen g c start number lines passed =
    let files = g.F.Shelf.files c.args.files.now in
    let name = c.args.name.now in
    let stepped = c.in_ok-step.ensures.stepped start (lines_text lines) passed.after in
    let whole = subst (IsStepped files name start (lines_text lines) c.args.walk.now c.step.new.self) c.in-Whole.is stepped in
    subst (HasSeen files name start number lines c.step.new.self) (sym c.look.ensures)
    (whole_seen files name start number lines c.args.walk.now c.step.new.self c.in_ok-line-in-Whole.line passed whole (rw c.line.ensures at c.in_ok-line-in-Whole.ensures))

pub returns-in-Long-clause-seen : goal.returns-in-Long-clause-seen
returns-in-Long-clause-seen g c start number lines passed =
    let files = g.F.Shelf.files c.args.files.now in
    let name = c.args.name.now in
    let stepped = c.in_ok-step.ensures.stepped start (lines_text lines) passed.after in
    long_told files name start lines (subst (IsStepped files name start (lines_text lines) c.args.walk.now c.step.new.self) c.in-Long.is stepped)
