-- The parts keep the bounds, and are those of the program with sums.
use Rattle.std.proofs.Common.{ap, ◌∙◌, ◌++◌, sym, refl, arith}
use Rattle.std.proofs.lemmas.Int.{ints}
use Rattle.std.proofs.lemmas.List.Elements.{All-same}
use Rattle.sum_slots.specs.Larger.{sum_rows}
use Rattle.sum_slots.proofs.Bounds.{keeps_bounds}
use Rattle.sum_slots.proofs.Lanes.{IsElsewhere}
use Rattle.sum_slots.proofs.Sameness.{law}
use Rattle.sum_slots.proofs.larger.with_sums.Goals as goal

pub invariant_of-result : goal.invariant_of-result
invariant_of-result c =
    let program = c.args.program in
    let sums = c.args.sums.now in
    let rows = c.in_ok-add_rows.ensures ∙ ap (λ n. program.rows ++ sum_rows n sums) c.len-slots.ensures in
    let kept = keeps_bounds program c.args.ranges.now sums c.free_lane-lane.result c.add_rows.new.rows c.in_ok-root.root c.add_tags.new.tags c.requires.slots c.requires.rows c.requires.declared c.requires.shown rows c.in_ok-root.ensures c.in_ok-add_tags.ensures in
    record {
      few_slots = kept.few_slots;
      root_normal = kept.root_normal;
      few_rows = kept.few_rows;
      rows_bounded = kept.rows_bounded;
      profit_bounded = kept.profit_bounded;
      base_bounded = omega (arith, ints, program.base_bounded);
      one_tag = kept.one_tag;
      costs_bounded = kept.costs_bounded;
      openings_bounded = kept.openings_bounded;
    }

pub returns-clause-made : goal.returns-clause-made
returns-clause-made c =
    let program = c.args.program in
    let sums = c.args.sums.now in record {
      lane = c.free_lane-lane.result;
      free = All-same (IsElsewhere c.free_lane-lane.result) program.tags c.as_slice.result.now (sym c.as_slice.ensures) c.free_lane-lane.ensures;
      tags = c.in_ok-add_tags.ensures;
      root = c.in_ok-root.ensures;
      rows = c.in_ok-add_rows.ensures ∙ ap (λ n. program.rows ++ sum_rows n sums) c.len-slots.ensures;
      profit = refl;
      base = omega (arith, ints, program.base_bounded);
      changes = refl;
    }

pub returns-clause-means : goal.returns-clause-means
returns-clause-means c = law c.args.program _ c.args.ranges.now c.args.sums.now c.requires.ranges c.requires.declared c.requires.shown (returns-clause-made c)
