-- What a band shows is no higher than the whole.
use Rattle.std.proofs.Common.{◌≤◌, ◌^◌, ℤ, unsigned_abs, sym, subst}
use Rattle.std.specs.List.{All}
use Rattle.plan_picture.proofs.Parts.{part_all}
use Rattle.plan_picture.proofs.graphs.push_band_steps.Goals as goal

pub push_steps-requires-clause-small : goal.push_steps-requires-clause-small
push_steps-requires-clause-small c =
    let shown = part_all (λ (level : ℤ). unsigned_abs level ≤ 2 ^ 88) c.args.plant.now c.args.band c.args.levels.now c.requires.small in
    subst (All (λ (level : ℤ). unsigned_abs level ≤ 2 ^ 88)) (sym c.band_part-shown.ensures.value) shown
