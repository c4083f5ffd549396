-- The definition's tests, with the end and the gap of the two slots.
use Rattle.std.proofs.Common.{◌≡◌, ◌+◌, ◌&&◌, nat_lt, ap, ap₂, sym, ◌∙◌}
use Rattle.std.proofs.lemmas.List.{get_or_default}
use Rattle.std.proofs.lemmas.Bool.{le-leb, lt-leb}
use Rattle.stn_model.specs.Plant.{no_run, run_at}
use Rattle.unit_rows.specs.Busy.{is_on}
use Rattle.unit_rows.specs.Gaps.{gap_after}
use Rattle.unit_rows.proofs.Nearness.{far-units, near-is}
use Rattle.row_names.proofs.gaps.is_too_soon.Goals as goal

pub returns-then-not-is_on : goal.returns-then-not-is_on
returns-then-not-is_on c =
    let run : c.get-run.result.now ≡ run_at c.args.plant.now c.args.first.0 = c.get-run.ensures ∙ get_or_default _ _ _ no_run c.requires.first.run in
    sym (far-units c.args.plant.now c.args.first c.args.second (ap (λ r. is_on c.args.plant.now r.unit c.args.second) (sym run) ∙ sym c.is_on.ensures ∙ c.if-not-is_on.true))

pub returns-then-ending-period : goal.returns-then-ending-period
returns-then-ending-period c =
    let run : c.get-run.result.now ≡ run_at c.args.plant.now c.args.first.0 = c.get-run.ensures ∙ get_or_default _ _ _ no_run c.requires.first.run in
    let later : c.get.result.now ≡ run_at c.args.plant.now c.args.second.0 = c.get.ensures ∙ get_or_default _ _ _ no_run c.requires.second.run in
    let near = near-is c.args.plant.now c.args.first c.args.second c.slot_end-ending.result c.gap_after-gap.result c.requires.first c.requires.second
    (ap (λ r. is_on c.args.plant.now r.unit c.args.second) (sym run) ∙ sym c.is_on.ensures ∙ c.if-not-is_on.false) c.slot_end-ending.ensures.value
    (c.gap_after-gap.ensures ∙ ap₂ (λ a b. gap_after c.args.plant.now a b) run later) in
    sym (near ∙ ap (λ t. t && nat_lt c.args.second.1 (c.slot_end-ending.result + c.gap_after-gap.result)) (le-leb _ _ c.if-ending-period.true))

pub returns-else-ending-period : goal.returns-else-ending-period
returns-else-ending-period c =
    let run : c.get-run.result.now ≡ run_at c.args.plant.now c.args.first.0 = c.get-run.ensures ∙ get_or_default _ _ _ no_run c.requires.first.run in
    let later : c.get.result.now ≡ run_at c.args.plant.now c.args.second.0 = c.get.ensures ∙ get_or_default _ _ _ no_run c.requires.second.run in
    let near = near-is c.args.plant.now c.args.first c.args.second c.slot_end-ending.result c.gap_after-gap.result c.requires.first c.requires.second
    (ap (λ r. is_on c.args.plant.now r.unit c.args.second) (sym run) ∙ sym c.is_on.ensures ∙ c.if-not-is_on.false) c.slot_end-ending.ensures.value
    (c.gap_after-gap.ensures ∙ ap₂ (λ a b. gap_after c.args.plant.now a b) run later) in
    let out = lt-leb c.slot_end-ending.result c.args.second.1 c.if-ending-period.false in
    out ∙ sym (near ∙ ap (λ t. t && nat_lt c.args.second.1 (c.slot_end-ending.result + c.gap_after-gap.result)) out)
