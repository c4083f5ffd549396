use Rattle.std.proofs.Common.{[], subst}
use Rattle.sum_lines.specs.Walk.{IsStepped}
use Rattle.sum_lines.proofs.Walks.{begun, no_first}
use Rattle.sum_lines.proofs.walk.Walk.begin.Goals as goal

pub step-requires-clause-after : goal.step-requires-clause-after
step-requires-clause-after g c = (0, [], c.in_ok-walk.ensures.after (g.F.Shelf.files c.args.files.now) c.args.name.now)

pub returns-in-Whole-clause-begun : goal.returns-in-Whole-clause-begun
returns-in-Whole-clause-begun g c =
    let files = g.F.Shelf.files c.args.files.now in
    let name = c.args.name.now in
    let after = c.in_ok-walk.ensures.after files name in
    let whole = subst (IsStepped files name 0 [] c.in_ok-walk.walk c.step.new.self) c.in-Whole.is (c.in_ok-step.ensures.stepped 0 [] after) in
    begun files name c.in_ok-walk.walk c.step.new.self c.versioned.result c.versioned.ensures c.in_ok-walk.ensures.line whole

pub returns-in_default : goal.returns-in_default
returns-in_default g c =
    let files = g.F.Shelf.files c.args.files.now in
    let name = c.args.name.now in
    let after = c.in_ok-walk.ensures.after files name in
    record {
      begun = no_first files name c.in_ok-walk.walk c.step.new.self c.in_ok-step.field-0 c.in_default.not-Whole (c.in_ok-step.ensures.stepped 0 [] after);
      frame = c.step.ensures.frame;
      fault = λ e. absurd (cc);
    }
