-- What the log says of the plant with these deliveries alone.
use Rattle.std.proofs.Common.{refl, ap, ◌∙◌}
use Rattle.fewer_orders.specs.Alone.{alone}
use Rattle.proof_log.specs.LogNames.{log_name}
use Rattle.conflict_commands.proofs.Checks.{kept_judged, kept_none}
use Rattle.conflict_commands.proofs.checking.check_kept.Goals as goal

pub returns-in-Ok-None-clause-checked : goal.returns-in-Ok-None-clause-checked
returns-in-Ok-None-clause-checked g c =
    let fewer = c.in_ok-fewer.ensures.alone ∙ ap (alone c.args.plant.now) c.as_slice.ensures.value in
    let named = c.as_str.ensures.value ∙ c.in_ok-name.ensures in (
      refl,
      kept_judged c.args.plant.now c.in_ok-fewer.fewer c.args.kept.items (g.F.Shelf.files c.args.files.now) (log_name c.args.stem.now 1) c.as_str.result.now c.in-Ok-None.field-0 fewer named c.in-Ok-None.field-0-is c.in-Ok-None.ensures.judged,
      kept_none c.args.plant.now c.in_ok-fewer.fewer c.args.kept.items c.in-Ok-None.field-0 fewer c.in-Ok-None.field-0-is c.in-Ok-None.ensures.says,
    )
