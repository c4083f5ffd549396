-- A head is taken where its sums and units suit and there is room.
use Rattle.std.proofs.Common.{false, ◌≡◌, [], List, ℕ, sym, ◌∙◌, subst}
use Rattle.std.specs.List.{All}
use Rattle.std.specs.List.Sorted.{IsStrictlyIncreasing}
use Rattle.std.proofs.lemmas.Bool.{false≢true}
use Rattle.sum_slots.specs.declared.sum.Sum.{Sum}
use Rattle.what_if.specs.Estimate.{IsSumOf}
use Rattle.what_if.proofs.TakenHeads.{not-taken, taken-if}
use Rattle.what_if.proofs.taking.is_taken.Goals as goal

pub returns-then-not-are_sums_of : goal.returns-then-not-are_sums_of
returns-then-not-are_sums_of c =
    not-taken c.args.plant.now c.args.program.now c.args.ranges.now c.args.head.now
    (λ taken. false≢true (sym c.if-not-are_sums_of.true ∙ c.are_sums_of.ensures.1 (subst (All (IsSumOf c.args.program.now c.args.ranges.now)) (sym c.as_slice.ensures) taken.each)))

pub returns-then-not-are_units : goal.returns-then-not-are_units
returns-then-not-are_units c =
    let capped = c.args.head.now.capped in
    not-taken c.args.plant.now c.args.program.now c.args.ranges.now c.args.head.now
    (λ taken. false≢true (sym c.if-not-are_units.true ∙ c.are_units.ensures.1
    (subst (λ (units : List ℕ). IsStrictlyIncreasing units × (capped ≡ false → units ≡ [])) (sym c.as_slice-2.ensures) (taken.ascending, taken.below))))

pub returns : goal.returns
returns c =
    let capped = c.args.head.now.capped in
    let each = subst (All (IsSumOf c.args.program.now c.args.ranges.now)) c.as_slice.ensures (c.are_sums_of.ensures.0 c.if-not-are_sums_of.false) in
    let units = subst (λ (units : List ℕ). IsStrictlyIncreasing units × (capped ≡ false → units ≡ [])) c.as_slice-2.ensures (c.are_units.ensures.0 c.if-not-are_units.false) in
    taken-if c.args.plant.now c.args.program.now c.args.ranges.now c.args.head.now c.has_room.result each units.0 units.1 c.has_room.ensures
