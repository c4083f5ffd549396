-- The program with the sums and the setups, and with the derivations looked at anew over its root.
use Rattle.std.proofs.Common.{ℕ, ◌+◌, ◌*◌, ◌≤◌, List, length, sym, ap, ◌∙◌, subst}
use Rattle.row_kit.specs.declared.domain.Domain.{Domain}
use Rattle.sum_slots.specs.declared.sum.Sum.{Sum}
use Rattle.sum_slots.specs.Larger.{IsWithSums}
use Rattle.setup_slots.specs.Several.{AreSetUp, HaveRoom, choices_before}
use Rattle.what_if.specs.Estimate.{IsDerivedAnew}
use Rattle.what_if.proofs.Capping.{wide-root}
use Rattle.what_if.proofs.Room.{derived-room, plant-slots, setups-room, sums-room}
use Rattle.what_if.proofs.estimating.with_head_anew.Goals as goal

pub with_sums-requires-clause-slots : goal.with_sums-requires-clause-slots
with_sums-requires-clause-slots c =
    subst (λ (sums : List Sum). length c.args.program.root + length sums ≤ 4096) (sym c.as_slice.ensures) (sums-room c.args.plant.now c.args.program c.args.ranges.now c.args.head.now c.requires.taken).0

pub with_sums-requires-clause-rows : goal.with_sums-requires-clause-rows
with_sums-requires-clause-rows c =
    subst (λ (sums : List Sum). length c.args.program.rows + 2 * length sums ≤ 400000) (sym c.as_slice.ensures) (sums-room c.args.plant.now c.args.program c.args.ranges.now c.args.head.now c.requires.taken).1

pub set_up_whole-requires-clause-slots : goal.set_up_whole-requires-clause-slots
set_up_whole-requires-clause-slots c =
    let with' = subst (λ (sums : List Sum). IsWithSums c.args.program c.args.ranges.now sums c.in_ok-between.between) c.as_slice.ensures c.in_ok-between.ensures.made in
    plant-slots c.args.plant.now c.args.program c.in_ok-between.between c.args.ranges.now c.args.head.now c.requires.taken with' c.requires.made

pub set_up_whole-requires-clause-room : goal.set_up_whole-requires-clause-room
set_up_whole-requires-clause-room c =
    let with' = subst (λ (sums : List Sum). IsWithSums c.args.program c.args.ranges.now sums c.in_ok-between.between) c.as_slice.ensures c.in_ok-between.ensures.made in
    subst (λ (units : List ℕ). HaveRoom c.args.plant.now units c.in_ok-between.between) (sym c.as_slice-2.ensures)
    (setups-room c.args.plant.now c.args.program c.in_ok-between.between c.args.ranges.now c.args.head.now c.requires.taken with')

pub derived_anew-requires : goal.derived_anew-requires
derived_anew-requires c =
    let with' = subst (λ (sums : List Sum). IsWithSums c.args.program c.args.ranges.now sums c.in_ok-between.between) c.as_slice.ensures c.in_ok-between.ensures.made in
    derived-room c.args.plant.now c.args.program c.in_ok-between.between c.args.ranges.now c.args.head.now c.requires.taken with' c.in_ok-set.set.program
    (subst (λ (units : List ℕ). AreSetUp c.args.plant.now units c.in_ok-between.between c.in_ok-set.set.program) c.as_slice-2.ensures c.in_ok-set.ensures.made)

pub returns : goal.returns
returns c =
    let plant = c.args.plant.now in
    let head = c.args.head.now in
    let between = c.in_ok-between.between in
    let wide = c.in_ok-set.set.program in
    let with' = subst (λ (sums : List Sum). IsWithSums c.args.program c.args.ranges.now sums between) c.as_slice.ensures c.in_ok-between.ensures.made in
    let up = subst (λ (units : List ℕ). AreSetUp plant units between wide) c.as_slice-2.ensures c.in_ok-set.ensures.made in
    record {
      between = between;
      with_sums = with';
      wide = wide;
      with_setups = up;
      grown =
          subst (λ (ds : List Domain). IsDerivedAnew wide ds head c.in_ok-program.program)
          (wide-root plant c.args.program between wide c.args.ranges.now head.sums head.units c.requires.root with' up) c.in_ok-program.ensures;
      choices = c.in_ok-set.ensures.choices ∙ ap (λ (units : List ℕ). choices_before units between) c.as_slice-2.ensures;
    }
