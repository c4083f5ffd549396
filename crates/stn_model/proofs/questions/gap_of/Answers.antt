use Rattle.std.proofs.Common.{arith, if◌then◌else◌}
use Rattle.std.proofs.lemmas.List.{take_all}
use Rattle.stn_model.specs.Plant.{gap_between, cost_between, is_between}
use Rattle.stn_model.proofs.Sums.{greatest_by-take}
use Rattle.stn_model.proofs.questions.gap_of.Goals as goal

pub loop-gap-preserved : goal.loop-gap-preserved
loop-gap-preserved c =
    let step = greatest_by-take (λ gap. if is_between c.args.unit c.args.from c.args.to gap then gap.periods else 0) c.as_slice-gap-items.result.now c.loop-gap.gap-index (record { unit = 0; from = 0; to = 0; periods = 0; cost = 0 }) c.loop-gap-test.true
    in grind (arith, step)

pub returns : goal.returns
unfolding gap_between cost_between
returns c =
    let whole = take_all c.loop-gap.gap-index c.as_slice-gap-items.result.now c.loop-gap-test.false
    in grind (arith, whole)
