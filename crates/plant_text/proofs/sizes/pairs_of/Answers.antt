use Rattle.std.proofs.Common.{◌≡◌, ℕ, arith, sym}
use Rattle.stn_model.specs.Sums.{count_below}
use Rattle.stn_model.specs.Points.{meets_gap}
use Rattle.plant_text.specs.Sizes.{pairs_between}
use Rattle.plant_text.proofs.Counting.{sum_below-more}
use Rattle.plant_text.proofs.Slots.{none_between, none_at}
use Rattle.plant_text.proofs.sizes.pairs_of.Goals as goal
use Rattle.plant_text.proofs.sizes.pairs_of.Goals.{then-row_a-period, else-row_a-period}

pub returns-then-a-b-clause-count : goal.returns-then-a-b-clause-count
returns-then-a-b-clause-count c = sym (none_between c.args.plant.now c.args.a.now c.args.b.now (λ e. grind arith))

pub loop-period-preserved : goal.loop-period-preserved
loop-period-preserved c =
    let more = sum_below-more (λ (p : ℕ). count_below (meets_gap c.args.plant.now c.args.a.now p c.args.b.now) c.args.plant.now.periods) c.loop-period.period in
    let has = c.requires.first.each c.loop-period.period (omega arith) in
    elim c.if-row_a-period.branch [
      | then-row_a-period w ↦ grind arith
      | else-row_a-period w ↦ let none = none_at c.args.plant.now c.args.a.now c.args.b.now c.loop-period.period (grind arith) in grind arith
    ]

pub returns-clause-count : goal.returns-clause-count
unfolding pairs_between
returns-clause-count c = let at_end : c.loop-period.period ≡ c.args.plant.now.periods = omega arith in rw at_end at c.loop-period.invariant.counted
