use Rattle.std.proofs.Common.{subst}
use Rattle.sum_lines.specs.Walk.{IsStepped}
use Rattle.setup_lines.specs.Line.{setups_text}
use Rattle.setup_lines.proofs.Seen.{end_none, whole_seen}
use Rattle.setup_lines.proofs.reading.next_unit.Goals as goal

pub step-requires-clause-after : goal.step-requires-clause-after
step-requires-clause-after g c = let p = c.requires.passed in (p.0, setups_text p.2, p.3.after)

pub returns-in-Whole-clause-seen : goal.returns-in-Whole-clause-seen
returns-in-Whole-clause-seen g c start number units passed =
    let files = g.F.Shelf.files c.args.files.now in
    let name = c.args.name.now in
    let stepped = c.in_ok-step.ensures.stepped start (setups_text units) passed.after in
    let whole = subst (IsStepped files name start (setups_text units) c.args.walk.now c.step.new.self) c.in-Whole.is stepped in
    whole_seen files name start number units c.args.walk.now c.step.new.self c.read_setup_line.result passed whole (rw c.line.ensures at c.read_setup_line.ensures)

pub returns-in_default : goal.returns-in_default
returns-in_default g c =
    let files = g.F.Shelf.files c.args.files.now in
    let name = c.args.name.now in
    record {
      short = tt;
      seen = λ start number units passed. end_none files name start units c.args.walk.now c.step.new.self c.in_ok-step.field-0 c.in_default.not-Whole (c.in_ok-step.ensures.stepped start (setups_text units) passed.after);
      frame = c.step.ensures.frame;
      fault = λ e. absurd cc;
    }
