use Rattle.std.proofs.Common.{◌≤◌, length, sym, subst}
use Rattle.std.specs.Prelude.{All}
use Rattle.stn_model.specs.declared.plant.Plant.{Plant}
use Rattle.plan_text.specs.ReadsBack.{IsWritable}
use Rattle.plan_text.specs.Published.{most_lines}
use Rattle.rolled_plant.specs.Kept.{moved}
use Rattle.plan_commands.proofs.Rolls.{moved-few, moved-writable}
use Rattle.plan_commands.proofs.rolling.rolled_text.Goals as goal

pub rest_text-requires-clause-few : goal.rest_text-requires-clause-few
rest_text-requires-clause-few c =
    subst (λ (rolled : Plant). length (moved c.args.parted.now.plan.now c.args.parted.now.period) ≤ most_lines rolled) (sym c.requires.made)
    (moved-few c.args.parted.now.plant.now c.args.parted.now.before.now c.args.parted.now.plan.now c.args.parted.now.period c.requires.parted.few)

pub rest_text-requires-clause-writable : goal.rest_text-requires-clause-writable
rest_text-requires-clause-writable c =
    subst (λ (rolled : Plant). All (IsWritable rolled) (moved c.args.parted.now.plan.now c.args.parted.now.period)) (sym c.requires.made)
    (moved-writable c.args.parted.now.plant.now c.args.parted.now.before.now c.args.parted.now.plan.now c.args.parted.now.period c.requires.parted.writable)
