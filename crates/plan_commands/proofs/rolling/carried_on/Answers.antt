use Rattle.std.proofs.Common.{List, inr, refl, subst}
use Rattle.stn_model.specs.declared.start.Start.{Start}
use Rattle.rolled_plant.specs.Kept.{IsMendable}
use Rattle.rolled_plant.specs.FitsFile.{FitsFile}
use Rattle.plan_commands.proofs.Rolls.{holds-there}
use Rattle.plan_commands.proofs.rolling.carried_on.Goals as goal

pub returns-in_ok-text-in-Some : goal.returns-in_ok-text-in-Some
returns-in_ok-text-in-Some c =
    let parted = c.args.parted.now in
    let need = c.requires.parted in
    let goes_on = c.requires.goes_on in
    inr (record {
      within = need.within;
      goes_on = goes_on;
      fits = holds-there (FitsFile parted.plant.now parted.before.now parted.period) c.in_ok-rolled.field-0 c.in-Some.rolled c.in-Some.is c.in_ok-rolled.ensures.fits;
      law = c.roll_law.ensures parted.plant.now parted.before.now parted.period need.sound need.within goes_on;
      plan = c.rest_law.ensures parted.plant.now parted.plan.now parted.period need.sound need.within
          (subst (λ (before : List Start). IsMendable parted.plant.now before parted.period) need.before goes_on);
      dates = c.date_law.ensures parted.plant.now parted.before.now parted.period need.sound;
      status_is = refl;
      text_is = c.in_ok-text-in-Some.ensures;
    })
