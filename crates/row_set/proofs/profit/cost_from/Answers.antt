-- What a unit of the utility costs in a period, and what the first of the amounts cost.
use Rattle.std.proofs.Common.{◌≡◌, ℕ, ◌+◌, ◌≤◌, ℤ, pos, ◌+ℤ◌, ◌*ℤ◌, slice_index, length, unsigned_abs, to_z, w64, ap, ap₂, ◌∙◌, sym, arith}
use Rattle.std.proofs.lemmas.List.{get_or_default}
use Rattle.stn_model.specs.Plant.{utility_at, no_utility, rate_in}
use Rattle.stn_model.specs.Sums.{total_below}
use Rattle.stn_model.proofs.Small.{rate_small}
use Rattle.stn_model.proofs.Totals.{total_below_more}
use Rattle.row_set.proofs.Small.{cost-part, machine-add, machine-add_fits}
use Rattle.row_set.proofs.profit.cost_from.Goals as goal

pub priced-sum-requires-clause-rate : goal.priced-sum-requires-clause-rate
priced-sum-requires-clause-rate c =
    let is : c.get-drawn.result.now ≡ utility_at c.args.plant.now c.args.utility = c.get-drawn.ensures ∙ get_or_default _ _ _ no_utility c.requires.utility in
    let small = rate_small c.args.plant.now c.requires.sound c.args.utility (c.args.period + c.loop-place.place) c.requires.utility in
    omega (arith, small, ap (λ u. unsigned_abs (rate_in u (c.args.period + c.loop-place.place))) is)

pub overflow_add-sum : goal.overflow_add-sum
overflow_add-sum c =
    let part = cost-part c.args.plant.now c.args.utility c.args.period c.loop-place.place c.args.amounts.now c.requires.sound c.requires.utility c.requires.each (omega (arith, c.loop-place-test.true)) in
    machine-add_fits (to_z w64 c.loop-place.sum-bits) c.priced-sum.result (omega (arith, ap unsigned_abs c.loop-place.invariant, part, c.loop-place-test.true, c.requires.few)) (omega (arith, c.priced-sum.ensures.small))

pub loop-place-preserved : goal.loop-place-preserved
loop-place-preserved c =
    let cost : ℕ → ℤ = λ k. rate_in (utility_at c.args.plant.now c.args.utility) (c.args.period + k) *ℤ pos (slice_index c.args.amounts.now k) in
    let is : c.get-drawn.result.now ≡ utility_at c.args.plant.now c.args.utility = c.get-drawn.ensures ∙ get_or_default _ _ _ no_utility c.requires.utility in
    let part = cost-part c.args.plant.now c.args.utility c.args.period c.loop-place.place c.args.amounts.now c.requires.sound c.requires.utility c.requires.each (omega (arith, c.loop-place-test.true)) in
    let more = machine-add (to_z w64 c.loop-place.sum-bits) c.priced-sum.result (omega (arith, ap unsigned_abs c.loop-place.invariant, part, c.loop-place-test.true, c.requires.few)) (omega (arith, c.priced-sum.ensures.small)) in
    let last = c.priced-sum.ensures.value ∙ ap (λ u. rate_in u (c.args.period + c.loop-place.place) *ℤ pos (slice_index c.args.amounts.now c.loop-place.place)) is in
    more ∙ ap₂ (λ x y. x +ℤ y) c.loop-place.invariant last ∙ sym (total_below_more cost c.loop-place.place)

pub returns-clause-small : goal.returns-clause-small
returns-clause-small c =
    let part = cost-part c.args.plant.now c.args.utility c.args.period c.loop-place.place c.args.amounts.now c.requires.sound c.requires.utility c.requires.each (omega (arith, c.loop-place.auto)) in
    omega (arith, ap unsigned_abs c.loop-place.invariant, part, c.loop-place-test.false, c.loop-place.auto, c.requires.few)
