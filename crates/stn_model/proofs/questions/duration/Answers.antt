use Rattle.std.proofs.Common.{arith}
use Rattle.std.proofs.lemmas.List.{take_all}
use Rattle.stn_model.specs.Plant.{duration_of}
use Rattle.stn_model.proofs.Sums.{greatest_by-take}
use Rattle.stn_model.proofs.questions.duration.Goals as goal

pub loop-output-preserved : goal.loop-output-preserved
loop-output-preserved c =
    let step = greatest_by-take (λ o. o.delay) c.as_slice-output-items.result.now c.loop-output.output-index (record { state = 0; amount = 0; delay = 0 }) c.loop-output-test.true
    in grind (arith, step)

pub returns : goal.returns
unfolding duration_of
returns c =
    let whole = take_all c.loop-output.output-index c.as_slice-output-items.result.now c.loop-output-test.false
    in grind (arith, whole)
