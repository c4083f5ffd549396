use Rattle.std.proofs.lemmas.Result.{err_from_is_err_and}
use Rattle.toml.specs.View.{view}
use Rattle.plant_text.specs.Scope.{scope_of}
use Rattle.plant_text.specs.Tables.{last_tests}
use Rattle.plant_text.proofs.Reading.{numbered_on, numbered_err, numbered_end}
use Rattle.plant_text.proofs.tables.unit.check_lasts.Goals as goal

pub returns-in_err-check_last-clause-err : goal.returns-in_err-check_last-clause-err
returns-in_err-check_last-clause-err c =
    let tests = last_tests (scope_of c.args.context.now) in
    let p = err_from_is_err_and c.from_residual.result c.from_residual.ensures.1 in
    rw (p.1, p.2) (numbered_err view tests c.args.units.now c.loop-number.number c.index-units-number.result c.loop-number-test.true c.index-units-number.is c.loop-number.invariant c.in_err-check_last.field-0.0 c.in_err-check_last.ensures.err)

pub loop-number-preserved : goal.loop-number-preserved
loop-number-preserved c =
    let tests = last_tests (scope_of c.args.context.now) in
    numbered_on view tests c.args.units.now c.loop-number.number c.index-units-number.result c.loop-number-test.true c.index-units-number.is c.loop-number.invariant c.in_ok-check_last.ensures.ok

pub returns-clause-ok : goal.returns-clause-ok
returns-clause-ok c = numbered_end view (last_tests (scope_of c.args.context.now)) c.args.units.now c.loop-number.number c.loop-number-test.false c.loop-number.invariant
