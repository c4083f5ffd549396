-- The parts are the program's own.
use Rattle.std.proofs.Common.{◌∙◌, arith}
use Rattle.std.proofs.lemmas.Int.{ints}
use Rattle.setup_slots.proofs.SameParts.{same-bounds, same-program}
use Rattle.setup_slots.proofs.copies.copy_of.Goals as goal

pub invariant_of-result : goal.invariant_of-result
invariant_of-result c =
    let rows = c.in_ok-rows.ensures ∙ c.as_slice.ensures in
    let profit = c.in_ok-profit.ensures ∙ c.as_slice-2.ensures in
    let root = c.in_ok-root.ensures ∙ c.as_slice-3.ensures in
    let tags = c.in_ok-tags.ensures ∙ c.as_slice-4.ensures in
    let changes = c.in_ok-changes.ensures ∙ c.as_slice-5.ensures in
    let kept = same-bounds c.args.program.now _ _ _ _ _ rows profit root tags changes in
    record {
      few_slots = kept.few_slots;
      root_normal = kept.root_normal;
      few_rows = kept.few_rows;
      rows_bounded = kept.rows_bounded;
      profit_bounded = kept.profit_bounded;
      base_bounded = omega (arith, ints, c.args.program.now.base_bounded);
      one_tag = kept.one_tag;
      costs_bounded = kept.costs_bounded;
      openings_bounded = kept.openings_bounded;
    }

pub returns : goal.returns
returns c =
    same-program _ c.args.program.now (c.in_ok-rows.ensures ∙ c.as_slice.ensures) (c.in_ok-profit.ensures ∙ c.as_slice-2.ensures) (omega (arith, ints, c.args.program.now.base_bounded)) (c.in_ok-root.ensures ∙ c.as_slice-3.ensures) (c.in_ok-tags.ensures ∙ c.as_slice-4.ensures) (c.in_ok-changes.ensures ∙ c.as_slice-5.ensures)
