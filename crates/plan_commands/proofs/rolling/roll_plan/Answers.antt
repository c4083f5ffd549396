use Rattle.std.proofs.Common.{◌<◌, ◌^◌, List, length, sym, subst, ◌∙◌, arith}
use Rattle.stn_model.specs.declared.start.Start.{Start}
use Rattle.plan_commands.proofs.Rolls.{kept-short}
use Rattle.plan_commands.proofs.rolling.roll_plan.Goals as goal

pub roll_parted-requires : goal.roll_parted-requires
roll_parted-requires c =
    let before = c.as_slice.ensures ∙ c.in_ok-before.ensures in
    record {
      sound = c.requires.sound;
      few = c.requires.few;
      writable = c.requires.writable;
      within = omega arith;
      before = before;
      short = subst (λ (starts : List Start). length starts < 2 ^ 32) (sym before) (kept-short c.args.plant.now c.args.plan.now c.args.period c.requires.few);
    }
