use Rattle.std.proofs.lemmas.Result.{err_from_is_err_and}
use Rattle.plant_text.proofs.document.array.Goals as goal

pub returns-in_err-into-clause-err : goal.returns-in_err-into-clause-err
returns-in_err-into-clause-err g c =
    let p = err_from_is_err_and c.from_residual.result c.from_residual.ensures.1 in
    rw (p.1, p.2) (rw (← c.most-most.ensures.is) c.in_err-into.ensures.gives)
