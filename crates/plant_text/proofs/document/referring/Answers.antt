use Rattle.std.proofs.Common.{refl}
use Rattle.std.proofs.lemmas.Result.{err_from_is_err_and}
use Rattle.plant_text.proofs.Faults.{passes, nothing, stops_after, stops_at}
use Rattle.plant_text.proofs.Limits.{same_either}
use Rattle.plant_text.proofs.document.referring.Goals as goal

pub returns-in_err-array-clause-err : goal.returns-in_err-array-clause-err
returns-in_err-array-clause-err c =
    let p = err_from_is_err_and c.from_residual.result c.from_residual.ensures.1 in
    rw (p.1, p.2) (stops_at c.in_err-array.field-0.0 _ _ c.in_err-array.ensures.err)

pub returns-in_err-array-2-clause-err : goal.returns-in_err-array-2-clause-err
returns-in_err-array-2-clause-err c =
    let p = err_from_is_err_and c.from_residual-in_err-array-2.result c.from_residual-in_err-array-2.ensures.1 in
    rw (p.1, p.2) (stops_after c.in_err-array-2.field-0.0 _ _ c.in_ok-array.ensures.passes (stops_at c.in_err-array-2.field-0.0 _ _ (rw (same_either c.args.context.now.third 4096) at c.in_err-array-2.ensures.err)))

pub returns-in_err-array-3-clause-err : goal.returns-in_err-array-3-clause-err
returns-in_err-array-3-clause-err c =
    let p = err_from_is_err_and c.from_residual-in_err-array-3.result c.from_residual-in_err-array-3.ensures.1 in
    rw (p.1, p.2) (stops_after c.in_err-array-3.field-0.0 _ _ c.in_ok-array.ensures.passes (stops_after c.in_err-array-3.field-0.0 _ _ (rw (same_either c.args.context.now.third 4096) at c.in_ok-array-2.ensures.passes) (stops_at c.in_err-array-3.field-0.0 _ _ c.in_err-array-3.ensures.err)))

pub returns-in_err-array-4-clause-err : goal.returns-in_err-array-4-clause-err
returns-in_err-array-4-clause-err c =
    let p = err_from_is_err_and c.from_residual-in_err-array-4.result c.from_residual-in_err-array-4.ensures.1 in
    rw (p.1, p.2) (stops_after c.in_err-array-4.field-0.0 _ _ c.in_ok-array.ensures.passes (stops_after c.in_err-array-4.field-0.0 _ _ (rw (same_either c.args.context.now.third 4096) at c.in_ok-array-2.ensures.passes) (stops_after c.in_err-array-4.field-0.0 _ _ c.in_ok-array-3.ensures.passes (stops_at c.in_err-array-4.field-0.0 _ _ c.in_err-array-4.ensures.err))))

pub returns-in_err-array-5-clause-err : goal.returns-in_err-array-5-clause-err
returns-in_err-array-5-clause-err c =
    let p = err_from_is_err_and c.from_residual-in_err-array-5.result c.from_residual-in_err-array-5.ensures.1 in
    rw (p.1, p.2) (stops_after c.in_err-array-5.field-0.0 _ _ c.in_ok-array.ensures.passes (stops_after c.in_err-array-5.field-0.0 _ _ (rw (same_either c.args.context.now.third 4096) at c.in_ok-array-2.ensures.passes) (stops_after c.in_err-array-5.field-0.0 _ _ c.in_ok-array-3.ensures.passes (stops_after c.in_err-array-5.field-0.0 _ _ c.in_ok-array-4.ensures.passes (stops_at c.in_err-array-5.field-0.0 _ _ c.in_err-array-5.ensures.err)))))

pub returns-clause-passes : goal.returns-clause-passes
returns-clause-passes c = passes _ _ c.in_ok-array.ensures.passes (passes _ _ (rw (same_either c.args.context.now.third 4096) at c.in_ok-array-2.ensures.passes) (passes _ _ c.in_ok-array-3.ensures.passes (passes _ _ c.in_ok-array-4.ensures.passes (passes _ _ c.in_ok-array-5.ensures.passes nothing))))

pub returns-clause-is : goal.returns-clause-is
returns-clause-is c = rw (c.in_ok-array.ensures.is, c.in_ok-array-2.ensures.is, c.in_ok-array-3.ensures.is, c.in_ok-array-4.ensures.is, c.in_ok-array-5.ensures.is) refl
