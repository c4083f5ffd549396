-- What solving leaves of the plant that was made is what it leaves of the plant within the horizon.
use Rattle.std.proofs.Common.{◌∙◌}
use Rattle.plan_told.specs.Proofs.{IsLeftOf}
use Rattle.shorter_plant.specs.PlantAt.{plant_at}
use Rattle.proof_log.specs.LogNames.{log_name}
use Rattle.least_horizon.proofs.LogFiles.{after_err, left_moved}
use Rattle.least_horizon.proofs.horizons.log_at.Goals as goal

pub returns-in_err-answer-clause-err : goal.returns-in_err-answer-clause-err
returns-in_err-answer-clause-err g c =
    after_err c.from_residual-in_err-answer.result (IsLeftOf (plant_at c.args.plant.now c.args.horizon) (log_name c.args.stem.now c.args.horizon) (g.F.Shelf.files c.args.files.now) (g.F.Shelf.files c.solve_to.new.files))
    (left_moved c.in_ok-short.short (plant_at c.args.plant.now c.args.horizon) c.as_str.result.now (log_name c.args.stem.now c.args.horizon) (g.F.Shelf.files c.args.files.now) (g.F.Shelf.files c.solve_to.new.files)
    c.in_ok-short.ensures.short (c.as_str.ensures.value ∙ c.in_ok-name.ensures) c.in_err-answer.ensures.err)
