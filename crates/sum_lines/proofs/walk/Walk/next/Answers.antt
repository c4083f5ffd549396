use Rattle.std.proofs.Common.{◌<◌, subst}
use Rattle.log_lines.specs.Reader.{line_length}
use Rattle.sum_lines.specs.Head.{text_with}
use Rattle.sum_lines.specs.Walk.{IsStepped}
use Rattle.sum_lines.proofs.Walks.{follows_front, long_told, whole_seen}
use Rattle.sum_lines.proofs.walk.Walk.next.Goals as goal

pub returns-in-Whole-clause-seen : goal.returns-in-Whole-clause-seen
returns-in-Whole-clause-seen g c version lines passed =
    let files = g.F.Shelf.files c.args.files.now in
    let stepped = c.in_ok-step.ensures.stepped 0 (text_with version lines) passed.after in
    let whole = subst (IsStepped files c.args.name.now 0 (text_with version lines) c.args.self.now c.step.new.self) c.in-Whole.is stepped in
    whole_seen files c.args.name.now version lines c.args.self.now c.step.new.self c.look.result passed whole (rw c.line.ensures at c.look.ensures.looked)

pub returns-in-Long-clause-seen : goal.returns-in-Long-clause-seen
returns-in-Long-clause-seen g c version lines passed =
    let files = g.F.Shelf.files c.args.files.now in
    let stepped = c.in_ok-step.ensures.stepped 0 (text_with version lines) passed.after in
    let long = subst (IsStepped files c.args.name.now 0 (text_with version lines) c.args.self.now c.step.new.self) c.in-Long.is stepped in
    long_told files c.args.name.now version lines (follows_front files c.args.name.now (text_with version lines) (λ w. 200 < line_length w) long)
