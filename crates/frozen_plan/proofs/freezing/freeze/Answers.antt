-- The plant's program with the root over the kept starts.
use Rattle.std.proofs.Common.{refl}
use Rattle.frozen_plan.proofs.Building.{some-root, some-has, frozen-bounds}
use Rattle.frozen_plan.proofs.Meaning.{frozen-part, frozen-exact, frozen-lawful}
use Rattle.frozen_plan.proofs.freezing.freeze.Goals as goal

pub invariant_of-program : goal.invariant_of-program
invariant_of-program c =
    let root_is = some-root c.args.plant.now c.args.period c.args.kept.now c.in_ok-root.field-0 c.in-Some.root c.in-Some.is c.in_ok-root.ensures.root in
    let has = some-has c.args.plant.now c.args.kept.now c.in_ok-root.field-0 c.in-Some.root c.in-Some.is c.in_ok-root.ensures.some in
    let bounds = frozen-bounds c.args.plant.now c.args.period c.args.kept.now c.in_ok-program.program c.in-Some.root c.requires.sound has c.in_ok-program.ensures.made.root_is root_is in
    record {
      few_slots = bounds.few_slots;
      root_normal = bounds.root_normal;
      few_rows = bounds.few_rows;
      rows_bounded = bounds.rows_bounded;
      profit_bounded = bounds.profit_bounded;
      base_bounded = bounds.base_bounded;
      one_tag = bounds.one_tag;
      costs_bounded = bounds.costs_bounded;
      openings_bounded = bounds.openings_bounded;
    }

pub returns-in-Some-clause-part : goal.returns-in-Some-clause-part
returns-in-Some-clause-part c =
    let root_is = some-root c.args.plant.now c.args.period c.args.kept.now c.in_ok-root.field-0 c.in-Some.root c.in-Some.is c.in_ok-root.ensures.root in
    let has = some-has c.args.plant.now c.args.kept.now c.in_ok-root.field-0 c.in-Some.root c.in-Some.is c.in_ok-root.ensures.some in
    frozen-part c.args.plant.now c.args.period c.args.kept.now c.in_ok-program.program _ c.requires.sound has c.in_ok-program.ensures.made c.in_ok-program.ensures.means
    (record { rows = refl; profit = refl; base = refl; tags = refl; changes = refl }) root_is

pub returns-in-Some-clause-exact : goal.returns-in-Some-clause-exact
returns-in-Some-clause-exact c =
    let root_is = some-root c.args.plant.now c.args.period c.args.kept.now c.in_ok-root.field-0 c.in-Some.root c.in-Some.is c.in_ok-root.ensures.root in
    let has = some-has c.args.plant.now c.args.kept.now c.in_ok-root.field-0 c.in-Some.root c.in-Some.is c.in_ok-root.ensures.some in
    λ plan. frozen-exact c.args.plant.now c.args.period c.args.kept.now _ plan c.requires.sound c.requires.early has root_is

pub returns-in-Some-clause-lawful : goal.returns-in-Some-clause-lawful
returns-in-Some-clause-lawful c =
    let root_is = some-root c.args.plant.now c.args.period c.args.kept.now c.in_ok-root.field-0 c.in-Some.root c.in-Some.is c.in_ok-root.ensures.root in
    let has = some-has c.args.plant.now c.args.kept.now c.in_ok-root.field-0 c.in-Some.root c.in-Some.is c.in_ok-root.ensures.some in
    λ point.
    frozen-lawful c.args.plant.now c.args.period c.args.kept.now _ point c.requires.sound c.requires.early has
    (frozen-part c.args.plant.now c.args.period c.args.kept.now c.in_ok-program.program _ c.requires.sound has c.in_ok-program.ensures.made c.in_ok-program.ensures.means
    (record { rows = refl; profit = refl; base = refl; tags = refl; changes = refl }) root_is) root_is
