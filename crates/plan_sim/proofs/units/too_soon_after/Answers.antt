use Rattle.std.proofs.Common.{refl}
use Rattle.std.proofs.lemmas.Bool.{iff_false}
use Rattle.plan_sim.proofs.Following.{none_soon_without_later, none_soon_when_cleaned, follows_when_soon, not_below}
use Rattle.plan_sim.proofs.units.too_soon_after.Goals as goal

pub returns-then-is_cleaned_before : goal.returns-then-is_cleaned_before
returns-then-is_cleaned_before c = none_soon_when_cleaned c.args.plant.now c.args.plan.now c.args.a.now c.in-Some.place c.requires c.in-Some.ensures (c.if-is_cleaned_before.ensures.0 refl)

pub returns-else-is_cleaned_before : goal.returns-else-is_cleaned_before
returns-else-is_cleaned_before c = follows_when_soon c.args.plant.now c.args.plan.now c.args.a.now c.in-Some.place c.requires c.in-Some.ensures (not_below _ _ (iff_false c.if-is_cleaned_before.ensures refl))

pub returns-in-None : goal.returns-in-None
returns-in-None c = none_soon_without_later c.args.plant.now c.args.plan.now c.args.a.now c.in-None.ensures
