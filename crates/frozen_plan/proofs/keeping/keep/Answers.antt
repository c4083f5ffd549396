-- The kept starts are no more than those of the plan, and are before the period.
use Rattle.std.proofs.Common.{◌<◌, ◌∙◌, subst, sym}
use Rattle.std.specs.List.{All}
use Rattle.stn_model.specs.declared.start.Start.{Start}
use Rattle.frozen_plan.specs.Frozen.{kept_starts}
use Rattle.frozen_plan.proofs.Before.{before-early}
use Rattle.frozen_plan.proofs.Standing.{cannot-stand, few-kept}
use Rattle.frozen_plan.proofs.keeping.keep.Goals as goal

pub broken_by-requires-clause-few : goal.broken_by-requires-clause-few
broken_by-requires-clause-few c = few-kept c.args.period c.args.plan.now c.as_slice.result.now 4294967296 (c.as_slice.ensures.value ∙ c.in_ok-kept.ensures) c.requires.few

pub returns-in-Some : goal.returns-in-Some
returns-in-Some c =
    let same = c.as_slice.ensures.value ∙ c.in_ok-kept.ensures in
    let found = c.in-Some.is in
    let broken = rw (found, same) at c.in_ok-violation.ensures in
    cannot-stand c.args.plant.now c.args.period (kept_starts c.args.period c.args.plan.now) c.in-Some.violation broken.0 broken.1

pub open_rows-requires-clause-early : goal.open_rows-requires-clause-early
open_rows-requires-clause-early c =
    subst (All (λ (start : Start). start.period < c.args.period)) (sym (c.as_slice-in-None.ensures.value ∙ c.in_ok-kept.ensures)) (before-early c.args.period c.args.plan.now)
