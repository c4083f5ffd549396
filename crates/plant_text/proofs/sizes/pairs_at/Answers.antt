use Rattle.std.proofs.Common.{arith}
use Rattle.std.proofs.lemmas.Bool.Decides.{nat_tests}
use Rattle.stn_model.specs.Points.{meets_gap}
use Rattle.plant_text.proofs.Counting.{count_below-more}
use Rattle.plant_text.proofs.Slots.{meets_gap-is}
use Rattle.plant_text.proofs.sizes.pairs_at.Goals as goal

pub loop-next-preserved : goal.loop-next-preserved
loop-next-preserved c =
    let is = meets_gap-is c.args.plant.now c.args.a.now c.args.b.now c.args.period c.loop-next.next c.requires.unit c.requires.slot in
    let more = count_below-more (meets_gap c.args.plant.now c.args.a.now c.args.period c.args.b.now) c.loop-next.next in
    let has = c.requires.row.each c.loop-next.next (omega arith) in
    grind (arith, nat_tests)
