use Rattle.std.proofs.Common.{arith}
use Rattle.std.proofs.lemmas.List.{take_all}
use Rattle.std.proofs.lemmas.Bool.Decides.{nat_tests}
use Rattle.stn_model.specs.Points.{slot_count}
use Rattle.plant_text.proofs.sizes.too_many_slots.Goals as goal

pub returns : goal.returns
unfolding slot_count
returns c =
    let whole = take_all c.loop-run.run-index c.as_slice-run-items.result.now c.loop-run-test.false
    in grind (arith, nat_tests, whole)
