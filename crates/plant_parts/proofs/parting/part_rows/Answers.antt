-- The plant's program with the root of a part.
use Rattle.std.proofs.Common.{refl, ap, ◌∙◌}
use Rattle.plant_parts.specs.PlantParts.{cut_root}
use Rattle.plant_parts.proofs.Meaning.{part-bounds, part-part, part-exact}
use Rattle.plant_parts.proofs.parting.part_rows.Goals as goal

pub invariant_of-program : goal.invariant_of-program
invariant_of-program c =
    let bounds = part-bounds c.args.plant.now c.args.levels c.args.part c.in_ok-program.program c.in_ok-program-2.field-0 c.requires.sound c.in_ok-program.ensures.made.root_is c.in_ok-program-2.ensures in
    record {
      few_slots = bounds.few_slots;
      root_normal = bounds.root_normal;
      few_rows = bounds.few_rows;
      rows_bounded = bounds.rows_bounded;
      profit_bounded = bounds.profit_bounded;
      base_bounded = bounds.base_bounded;
      one_tag = bounds.one_tag;
      costs_bounded = bounds.costs_bounded;
      openings_bounded = bounds.openings_bounded;
    }

pub returns-clause-part : goal.returns-clause-part
returns-clause-part c =
    part-part c.args.plant.now c.args.levels c.args.part c.in_ok-program.program _ c.requires.sound c.in_ok-program.ensures.made c.in_ok-program.ensures.means
    (record { rows = refl; profit = refl; base = refl; tags = refl; changes = refl }) c.in_ok-program-2.ensures

pub returns-clause-exact : goal.returns-clause-exact
returns-clause-exact c =
    λ plan. part-exact c.args.plant.now c.args.levels c.args.part _ plan c.requires.sound c.requires.slots
    (c.in_ok-program-2.ensures ∙ ap (cut_root c.args.levels c.args.part) c.in_ok-program.ensures.made.root_is)
