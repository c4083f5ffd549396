-- What is told of a search over the rows with what a head declares is right.
use Rattle.std.proofs.Common.{true}
use Rattle.std.proofs.lemmas.Result.{IfOk-weaker, on_err_weaker}
use Rattle.stn_model.specs.declared.answer.Outcome.{Outcome}
use Rattle.stn_model.specs.Points.{depth_limit}
use Rattle.plan_told.specs.Proofs.{bytes_in}
use Rattle.logged_search.specs.Logging.{LeavesBegun}
use Rattle.logged_search.proofs.LogsLeft.{headed-left, writes-none}
use Rattle.stn_solve.specs.laws.Telling.{IsToldOver}
use Rattle.stn_solve.proofs.SearchTold.{can-be-told, headed-images}
use Rattle.stn_solve.proofs.ToldOver.{over-begun, over-outcome, over-proof}
use Rattle.stn_solve.proofs.headed.solve_headed_to.Goals as goal

pub solve_over-requires-clause-can : goal.solve_over-requires-clause-can
solve_over-requires-clause-can g c = record {
  sound = c.requires.can.sound;
  images = headed-images c.args.part.plant.now c.args.part.program c.args.part.judged c.in_ok-begun.begun.headed c.requires.can.sound c.requires.can.part_of c.requires.can.ranges c.in_ok-begun.ensures.headed;
  splits = c.in_ok-begun.ensures.headed.few_splits;
  few = c.requires.can.few;
  told = can-be-told c.args.part.plant.now c.args.part.program c.args.part.judged c.in_ok-begun.begun.headed c.in_ok-begun.begun.least c.args.budget c.requires.can.sound c.requires.can.part_of c.requires.can.ranges c.in_ok-begun.ensures.headed c.in_ok-begun.ensures.least c.requires.can.few.0 c.requires.can.many c.requires.can.few.1;
}

pub returns-clause-outcome : goal.returns-clause-outcome
returns-clause-outcome g c =
    IfOk-weaker c.solve_over.result _ _ (λ (outcome : Outcome) (over : IsToldOver c.args.part.plant.now c.in_ok-begun.begun.headed c.in_ok-begun.begun.least c.args.budget c.in_ok-begun.begun.point (bytes_in c.args.name.now (g.F.Shelf.files c.solve_over.new.files)) outcome). over-outcome c.args.part.plant.now c.args.part.program c.args.part.judged c.in_ok-begun.begun.headed c.in_ok-begun.begun.least c.args.budget c.in_ok-begun.begun.point (bytes_in c.args.name.now (g.F.Shelf.files c.solve_over.new.files)) c.requires.can.sound c.requires.can.part_of c.requires.can.ranges c.in_ok-begun.ensures.headed c.in_ok-begun.ensures.least c.requires.can.few.0 c.requires.can.many c.requires.can.few.1 outcome over) c.solve_over.ensures.told

pub returns-clause-proof : goal.returns-clause-proof
returns-clause-proof g c = λ levels has.
    IfOk-weaker c.solve_over.result _ _ (λ (outcome : Outcome) (over : IsToldOver c.args.part.plant.now c.in_ok-begun.begun.headed c.in_ok-begun.begun.least c.args.budget c.in_ok-begun.begun.point (bytes_in c.args.name.now (g.F.Shelf.files c.solve_over.new.files)) outcome). over-proof c.args.part.plant.now c.args.part.program c.args.part.judged c.in_ok-begun.begun.headed c.in_ok-begun.begun.least c.args.budget c.in_ok-begun.begun.point (bytes_in c.args.name.now (g.F.Shelf.files c.solve_over.new.files)) c.requires.can.sound c.requires.can.part_of c.requires.can.ranges c.in_ok-begun.ensures.headed c.in_ok-begun.ensures.least c.requires.can.few.0 c.requires.can.many c.requires.can.few.1 outcome over levels has) c.solve_over.ensures.told

pub returns-clause-begun : goal.returns-clause-begun
returns-clause-begun g c =
    IfOk-weaker c.solve_over.result _ _ (λ (outcome : Outcome) (over : IsToldOver c.args.part.plant.now c.in_ok-begun.begun.headed c.in_ok-begun.begun.least c.args.budget c.in_ok-begun.begun.point (bytes_in c.args.name.now (g.F.Shelf.files c.solve_over.new.files)) outcome). over-begun c.args.part.plant.now c.args.part.program c.args.part.judged c.in_ok-begun.begun.headed c.in_ok-begun.begun.least c.args.budget c.in_ok-begun.begun.point (bytes_in c.args.name.now (g.F.Shelf.files c.solve_over.new.files)) c.requires.can.sound c.requires.can.part_of c.requires.can.ranges c.in_ok-begun.ensures.headed c.in_ok-begun.ensures.least c.requires.can.few.0 c.requires.can.many c.requires.can.few.1 outcome over c.args.start.now c.in_ok-begun.ensures.point) c.solve_over.ensures.told

pub returns-clause-err : goal.returns-clause-err
returns-clause-err g c = λ levels has.
    let headed = c.in_ok-begun.begun.headed in
    let is = c.in_ok-begun.ensures.headed in
    on_err_weaker c.solve_over.result
    (λ (left : LeavesBegun (depth_limit c.args.part.plant.now) headed.rows true headed.head.items c.args.name.now (g.F.Shelf.files c.args.files.now) (g.F.Shelf.files c.solve_over.new.files)).
    headed-left c.args.part.plant.now c.args.part.program headed.rows c.args.part.judged levels headed.sums is.units is.derivations headed.head.items c.args.name.now is.can has is.head (g.F.Shelf.files c.args.files.now) (g.F.Shelf.files c.solve_over.new.files) left)
    c.solve_over.ensures.err

pub returns-in_err-begun-clause-frame : goal.returns-in_err-begun-clause-frame
returns-in_err-begun-clause-frame g c = writes-none g.F.Shelf c.args.name.now c.args.files.now

pub returns-clause-frame : goal.returns-clause-frame
returns-clause-frame g c = c.solve_over.ensures.frame
