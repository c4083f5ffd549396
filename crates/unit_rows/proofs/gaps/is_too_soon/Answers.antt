-- The definition's tests, with the end and the gaps that are given.
use Rattle.std.proofs.Common.{◌≡◌, ◌+◌, ◌&&◌, get_or, nat_lt, ap, sym, ◌∙◌}
use Rattle.std.proofs.lemmas.List.{get_or_default}
use Rattle.std.proofs.lemmas.Bool.{le-leb, lt-leb}
use Rattle.stn_model.specs.Plant.{no_run, run_at}
use Rattle.unit_rows.specs.Busy.{is_on}
use Rattle.unit_rows.proofs.Nearness.{far-units, near-is, gap_at}
use Rattle.unit_rows.proofs.gaps.is_too_soon.Goals as goal

pub returns-then-not-is_on : goal.returns-then-not-is_on
returns-then-not-is_on c =
    let run : c.get.result.now ≡ run_at c.args.plant.now c.args.first.0 = c.get.ensures ∙ get_or_default _ _ _ no_run c.requires.first.run in
    sym (far-units c.args.plant.now c.args.first c.args.second (ap (λ r. is_on c.args.plant.now r.unit c.args.second) (sym run) ∙ sym c.is_on.ensures ∙ c.if-not-is_on.true))

pub returns-then-ending-period : goal.returns-then-ending-period
returns-then-ending-period c =
    let run : c.get.result.now ≡ run_at c.args.plant.now c.args.first.0 = c.get.ensures ∙ get_or_default _ _ _ no_run c.requires.first.run in
    let near = near-is c.args.plant.now c.args.first c.args.second c.args.ending (get_or c.args.gaps.now c.args.second.0 0) c.requires.first c.requires.second
    (ap (λ r. is_on c.args.plant.now r.unit c.args.second) (sym run) ∙ sym c.is_on.ensures ∙ c.if-not-is_on.false) c.requires.ending
    (gap_at c.args.plant.now c.args.first c.args.second c.args.gaps.now c.requires.second c.requires.gaps) in
    sym (near ∙ ap (λ t. t && nat_lt c.args.second.1 (c.args.ending + get_or c.args.gaps.now c.args.second.0 0)) (le-leb _ _ c.if-ending-period.true))

pub returns-else-ending-period : goal.returns-else-ending-period
returns-else-ending-period c =
    let run : c.get.result.now ≡ run_at c.args.plant.now c.args.first.0 = c.get.ensures ∙ get_or_default _ _ _ no_run c.requires.first.run in
    let near = near-is c.args.plant.now c.args.first c.args.second c.args.ending (get_or c.args.gaps.now c.args.second.0 0) c.requires.first c.requires.second
    (ap (λ r. is_on c.args.plant.now r.unit c.args.second) (sym run) ∙ sym c.is_on.ensures ∙ c.if-not-is_on.false) c.requires.ending
    (gap_at c.args.plant.now c.args.first c.args.second c.args.gaps.now c.requires.second c.requires.gaps) in
    let out = lt-leb c.args.ending c.args.second.1 c.if-ending-period.false in
    out ∙ sym (near ∙ ap (λ t. t && nat_lt c.args.second.1 (c.args.ending + get_or c.args.gaps.now c.args.second.0 0)) out)
