use Rattle.std.proofs.Common.{◌≤◌, arith}
use Rattle.std.specs.Prelude.{unsigned_abs}
use Rattle.std.proofs.lemmas.Int.{to_z-of_z, fits_signed_from_abs}
use mir.Syntax.{w64}
use Rattle.std.proofs.lemmas.List.{get_or_default}
use Rattle.stn_model.specs.Plant.{no_utility}
use Rattle.stn_model.proofs.Small.{rate_small}
use Rattle.plan_sim.proofs.profit.cost_in.Goals as goal

pub scaled-requires-clause-rate : goal.scaled-requires-clause-rate
scaled-requires-clause-rate c =
    let rate = c.rate_in-rate.result in
    let there = get_or_default c.args.plant.now.utilities c.args.utility c.get.result.now no_utility c.requires.there in
    let small : unsigned_abs rate ≤ 1000000 = rw (c.rate_in-rate.ensures, c.get.ensures, there) (rate_small c.args.plant.now c.requires.sound c.args.utility _ c.requires.there) in
    rw (to_z-of_z w64 rate (fits_signed_from_abs w64 rate (omega (arith, small)))) (omega (arith, small))
