-- The sums and the setups that are chosen can stand in a head.
use Rattle.std.proofs.Common.{ℕ, List, sym, subst, arith}
use Rattle.row_kit.specs.declared.domain.Domain.{Domain}
use Rattle.sum_slots.specs.Shown.{AreRanges}
use Rattle.head_choice.specs.Heading.{AreChosen}
use Rattle.head_choice.proofs.Limits.{slots-within}
use Rattle.head_choice.proofs.HeadChosen.{domains-are, given-there, plant-slots}
use Rattle.head_choice.proofs.widening.wide_part.Goals as goal

pub sums_for-requires-clause-ranges : goal.sums_for-requires-clause-ranges
sums_for-requires-clause-ranges c = subst (AreRanges c.args.part) (sym c.as_slice.ensures) c.requires.ranges

pub sums_for-requires-clause-room : goal.sums_for-requires-clause-room
sums_for-requires-clause-room c = (let within = slots-within c.args.plant.now in omega (arith, within, c.slot_limit-most.ensures))

pub setups_for-requires-clause-slots : goal.setups_for-requires-clause-slots
setups_for-requires-clause-slots c =
    let made = c.in_ok-sums.field-0 in
    plant-slots c.slot_limit-most.result c.args.part made.program c.as_slice.result.now made.sums c.in_ok-sums.ensures c.args.plant.now c.requires.part

pub slice_bounds-joined-count : goal.slice_bounds-joined-count
slice_bounds-joined-count c =
    let made = c.in_ok-sums.field-0 in
    let set = c.in_ok-units.field-0.set in
    omega (arith, given-there c.args.plant.now c.args.part made.program set.program c.as_slice.result.now made.sums c.in_ok-units.field-0.units c.len-given.result c.as_slice-2.result.now c.len-given.ensures c.as_slice-2.ensures c.in_ok-sums.ensures.with_sums c.in_ok-units.ensures.made)

pub slice_bounds-joined-start : goal.slice_bounds-joined-start
slice_bounds-joined-start c =
    let made = c.in_ok-sums.field-0 in
    let set = c.in_ok-units.field-0.set in
    omega (arith, given-there c.args.plant.now c.args.part made.program set.program c.as_slice.result.now made.sums c.in_ok-units.field-0.units c.len-given.result c.as_slice-2.result.now c.len-given.ensures c.as_slice-2.ensures c.in_ok-sums.ensures.with_sums c.in_ok-units.ensures.made)

pub returns : goal.returns
returns c =
    let made = c.in_ok-sums.field-0 in
    let units = c.in_ok-units.field-0.units in
    let set = c.in_ok-units.field-0.set in
    let chosen = subst (λ (n : ℕ). AreChosen n c.args.part c.args.judged made.sums made.program) c.slot_limit-most.ensures
    (subst (λ (ds : List Domain). AreChosen c.slot_limit-most.result c.args.part ds made.sums made.program) c.as_slice.ensures c.in_ok-sums.ensures) in
    record {
      between = made.program;
      chosen = chosen;
      may = c.in_ok-units.ensures.can;
      set = c.in_ok-units.ensures.made;
      choices = c.in_ok-units.ensures.choices;
      domains = domains-are c.args.plant.now c.args.part made.program set.program c.args.judged made.sums units c.len-given.result c.as_slice-2.result.now c.in_ok-domains.domains c.len-given.ensures c.as_slice-2.ensures chosen.with_sums c.in_ok-units.ensures.made c.in_ok-domains.ensures;
    }
