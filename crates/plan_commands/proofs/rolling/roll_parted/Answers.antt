use Rattle.std.proofs.Common.{◌<◌, List, sym, subst}
use Rattle.std.specs.Prelude.{All}
use Rattle.stn_model.specs.declared.start.Start.{Start}
use Rattle.plan_commands.proofs.Rolls.{kept-earlier}
use Rattle.plan_commands.proofs.rolling.roll_parted.Goals as goal

pub first_unmended-requires-clause-earlier : goal.first_unmended-requires-clause-earlier
first_unmended-requires-clause-earlier c =
    let parted = c.args.parted.now in
    subst (λ (before : List Start). All (λ (start : Start). start.period < parted.period) before) (sym c.requires.before) (kept-earlier parted.plan.now parted.period)
