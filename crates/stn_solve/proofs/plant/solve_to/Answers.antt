-- The program of a plant is a part of its choices, and its outcomes are those of the plant.
use Rattle.std.proofs.Common.{◌∙◌, inr, List, sym, subst}
use Rattle.std.proofs.lemmas.Result.{IfOk-weaker, on_err_weaker}
use Rattle.stn_model.specs.declared.answer.Outcome.{Outcome}
use Rattle.row_kit.specs.declared.domain.Domain.{Domain}
use Rattle.sum_slots.specs.Shown.{AreRanges}
use Rattle.valid_log.proofs.PlantRanges.{plant-ranges}
use Rattle.plan_told.specs.Proofs.{HasProof, LeavesSomeBegun, bytes_in}
use Rattle.plan_told.proofs.WholePlant.{whole-is_part, whole-outcome}
use Rattle.stn_solve.proofs.BegunTold.{begun-if}
use Rattle.stn_solve.proofs.plant.solve_to.Goals as goal

pub solve_rows_to-requires-clause-part : goal.solve_rows_to-requires-clause-part
solve_rows_to-requires-clause-part g c = whole-is_part c.args.plant.now c.in_ok-program.field-0.program c.in_ok-program.ensures.made c.in_ok-program.ensures.means

pub solve_rows_to-requires-clause-ranges : goal.solve_rows_to-requires-clause-ranges
solve_rows_to-requires-clause-ranges g c = subst (AreRanges c.in_ok-program.field-0.program) (sym c.in_ok-program.ensures.judged) (plant-ranges c.args.plant.now c.in_ok-program.field-0.program c.in_ok-program.ensures.made)

pub returns-clause-outcome : goal.returns-clause-outcome
returns-clause-outcome g c =
    IfOk-weaker c.solve_rows_to.result _ _
    (λ outcome right. whole-outcome c.args.plant.now c.in_ok-program.field-0.program c.args.budget outcome c.requires.sound c.in_ok-program.ensures.made c.in_ok-program.ensures.means right)
    c.solve_rows_to.ensures.outcome

pub returns-clause-proof : goal.returns-clause-proof
returns-clause-proof g c =
    IfOk-weaker c.solve_rows_to.result _ _
    (λ (outcome : Outcome) (has : HasProof c.args.plant.now c.in_ok-program.field-0.program c.in_ok-program.field-0.judged 0 (bytes_in c.args.name.now (g.F.Shelf.files c.solve_rows_to.new.files)) outcome). record { program = c.in_ok-program.field-0.program; made = c.in_ok-program.ensures.made; means = c.in_ok-program.ensures.means; has = subst (λ (ds : List Domain). HasProof c.args.plant.now c.in_ok-program.field-0.program ds 0 (bytes_in c.args.name.now (g.F.Shelf.files c.solve_rows_to.new.files)) outcome) c.in_ok-program.ensures.judged has })
    c.solve_rows_to.ensures.proof

pub returns-clause-err : goal.returns-clause-err
returns-clause-err g c =
    on_err_weaker c.solve_rows_to.result
    (λ (left : LeavesSomeBegun c.args.plant.now c.in_ok-program.field-0.program c.in_ok-program.field-0.judged 0 c.args.name.now (g.F.Shelf.files c.args.files.now) (g.F.Shelf.files c.solve_rows_to.new.files)).
    inr (c.in_ok-program.field-0.program, (c.in_ok-program.ensures.made, (c.in_ok-program.ensures.means, subst (λ (ds : List Domain). LeavesSomeBegun c.args.plant.now c.in_ok-program.field-0.program ds 0 c.args.name.now (g.F.Shelf.files c.args.files.now) (g.F.Shelf.files c.solve_rows_to.new.files)) c.in_ok-program.ensures.judged left))))
    c.solve_rows_to.ensures.err

pub returns-clause-begun : goal.returns-clause-begun
returns-clause-begun g c =
    begun-if c.args.plant.now c.in_ok-program.field-0.program c.args.start.now c.deref.result.now c.solve_rows_to.result c.requires.sound (whole-is_part c.args.plant.now c.in_ok-program.field-0.program c.in_ok-program.ensures.made c.in_ok-program.ensures.means)
    c.in_ok-program.ensures.means (λ has. c.deref.ensures.value ∙ c.in_ok-program.ensures.point has) c.solve_rows_to.ensures.begun
