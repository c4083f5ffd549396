-- The parts keep the bounds, and make the plant's program.
use Rattle.row_set.proofs.Bounds.{bounds-kept, base-is}
use Rattle.row_set.proofs.Meaning.{program-of_parts}
use Rattle.row_set.proofs.program.program_of.Goals as goal

pub invariant_of-result : goal.invariant_of-result
invariant_of-result c =
    let kept = bounds-kept c.args.plant.now c.in_ok-rows.rows c.in_ok-profit.profit _ c.in_ok-root.root c.in_ok-tags.tags c.in_ok-changes.changes c.requires
    c.in_ok-rows.ensures c.in_ok-profit.ensures (base-is c.args.plant.now c.profit_of-base.result c.requires c.profit_of-base.ensures) c.in_ok-root.ensures c.in_ok-tags.ensures c.in_ok-changes.ensures in
    record {
      few_slots = kept.few_slots;
      root_normal = kept.root_normal;
      few_rows = kept.few_rows;
      rows_bounded = kept.rows_bounded;
      profit_bounded = kept.profit_bounded;
      base_bounded = kept.base_bounded;
      one_tag = kept.one_tag;
      costs_bounded = kept.costs_bounded;
      openings_bounded = kept.openings_bounded;
    }

pub returns-clause-means : goal.returns-clause-means
returns-clause-means c =
    program-of_parts c.args.plant.now _ c.requires (record {
      rows_are = c.in_ok-rows.ensures;
      profit_is = c.in_ok-profit.ensures;
      base_is = base-is c.args.plant.now c.profit_of-base.result c.requires c.profit_of-base.ensures;
      root_is = c.in_ok-root.ensures;
      tags_are = c.in_ok-tags.ensures;
      changes_are = c.in_ok-changes.ensures;
    })
