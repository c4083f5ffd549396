-- The parts keep the bounds, and are those of the program with the setup.
use Rattle.std.proofs.Common.{◌≡◌, ◌++◌, List, length, map, ap, ◌∙◌, sym, refl, arith}
use Rattle.std.proofs.lemmas.Int.{ints}
use Rattle.std.proofs.lemmas.List.Elements.{All-same}
use Rattle.row_kit.specs.declared.row.Entry.{Entry}
use Rattle.setup_slots.specs.Larger.{setup_domain, setup_tag}
use Rattle.setup_slots.specs.Rows.{profit_entries}
use Rattle.setup_slots.proofs.Bounds.{keeps-bounds}
use Rattle.setup_slots.proofs.Growing.{same-rows}
use Rattle.setup_slots.proofs.larger.with_parts.Goals as goal

pub invariant_of-result : goal.invariant_of-result
invariant_of-result c =
    let program = c.args.program in
    let rows = c.in_ok-add_rows.ensures ∙ ap (λ more. program.rows ++ more) (same-rows c.args.plant.now c.args.unit c.args.slots.now c.args.setups.now c.args.rows.now c.len-first.result (length c.args.program.root) c.requires.slots c.requires.setups c.requires.rows c.len-first.ensures) in
    let profit = c.in_ok-add_entries.ensures ∙ ap (λ (more : List Entry). program.profit ++ more) (c.as_slice-2.ensures ∙ c.in_ok-more.ensures ∙ ap (λ n. profit_entries c.args.plant.now c.args.unit n) c.len-first.ensures) in
    let root = c.in_ok-add_domains.ensures ∙ ap (λ ss. program.root ++ map (λ s. setup_domain) ss) c.requires.setups in
    let tags = c.in_ok-add_tags.ensures ∙ ap (λ ss. program.tags ++ map (λ s. setup_tag c.free_lane-lane.result) ss) c.requires.setups in
    let kept = keeps-bounds c.args.plant.now c.args.unit c.free_lane-lane.result program c.add_rows.new.into c.add_entries.new.entries c.add_domains.new.root c.add_tags.new.tags
    c.requires.sound c.requires.begins c.requires.room rows profit root tags in
    record {
      few_slots = kept.few_slots;
      root_normal = kept.root_normal;
      few_rows = kept.few_rows;
      rows_bounded = kept.rows_bounded;
      profit_bounded = kept.profit_bounded;
      base_bounded = omega (arith, ints, program.base_bounded);
      one_tag = kept.one_tag;
      costs_bounded = kept.costs_bounded;
      openings_bounded = kept.openings_bounded;
    }

pub returns : goal.returns
returns c =
    let program = c.args.program in
    record {
      lane = c.free_lane-lane.result;
      free = All-same (λ tag. tag.lane ≡ c.free_lane-lane.result → ⊥) program.tags c.as_slice.result.now (sym c.as_slice.ensures) c.free_lane-lane.ensures;
      tags = c.in_ok-add_tags.ensures ∙ ap (λ ss. program.tags ++ map (λ s. setup_tag c.free_lane-lane.result) ss) c.requires.setups;
      root = c.in_ok-add_domains.ensures ∙ ap (λ ss. program.root ++ map (λ s. setup_domain) ss) c.requires.setups;
      rows = c.in_ok-add_rows.ensures ∙ ap (λ more. program.rows ++ more) (same-rows c.args.plant.now c.args.unit c.args.slots.now c.args.setups.now c.args.rows.now c.len-first.result (length c.args.program.root) c.requires.slots c.requires.setups c.requires.rows c.len-first.ensures);
      profit = c.in_ok-add_entries.ensures ∙ ap (λ (more : List Entry). program.profit ++ more) (c.as_slice-2.ensures ∙ c.in_ok-more.ensures ∙ ap (λ n. profit_entries c.args.plant.now c.args.unit n) c.len-first.ensures);
      base = omega (arith, ints, program.base_bounded);
      changes = refl;
    }
