-- The first horizon that settles something is the answer, and the logs of shorter ones stay while its log is written.
use Rattle.std.proofs.Common.{◌≡◌, ℕ, ◌+◌, ◌<◌, ◌^◌, subst, sym, arith}
use Rattle.least_horizon.specs.LogNames.{logs_in, OthersStayBelow}
use Rattle.least_horizon.specs.Least.{AreInfeasible, IsHorizonSettled, IsStopped}
use Rattle.least_horizon.proofs.Steps.{found_least, found_untried, found_nowhere, one_more}
use Rattle.least_horizon.proofs.LogFiles.{still_infeasible, stay_below, after_err}
use Rattle.least_horizon.proofs.horizons.least_to.Goals as goal

pub returns-in_err-answer-clause-err : goal.returns-in_err-answer-clause-err
returns-in_err-answer-clause-err g c =
    let few = c.requires.sound.counts.periods.1 in
    let small : c.loop-horizon.horizon < 2 ^ 64 = omega arith in
    let old = g.F.Shelf.files c.loop-horizon.files in
    let new = g.F.Shelf.files c.log_at.new.files in
    let whole = still_infeasible c.args.plant.now c.args.budget c.args.stem.now c.loop-horizon.horizon old new small c.log_at.ensures.others c.loop-horizon.invariant.whole in
    after_err c.from_residual.result (IsStopped c.args.plant.now c.args.budget c.args.stem.now (g.F.Shelf.files c.args.files.now) new) (record {
      horizon = c.loop-horizon.horizon;
      within = (omega arith, omega arith);
      whole = whole;
      begun = old;
      kept = c.loop-horizon.invariant.kept;
      left = c.in_err-answer.ensures.err;
      others = c.log_at.ensures.others;
    })

pub returns-in-Some-clause-least : goal.returns-in-Some-clause-least
returns-in-Some-clause-least g c =
    let few = c.requires.sound.counts.periods.1 in
    let old = g.F.Shelf.files c.loop-horizon.files in
    let new = g.F.Shelf.files c.log_at.new.files in
    let whole = still_infeasible c.args.plant.now c.args.budget c.args.stem.now c.loop-horizon.horizon old new (omega arith) c.log_at.ensures.others c.loop-horizon.invariant.whole in
    found_least c.args.plant.now c.args.budget (logs_in c.args.stem.now new) c.loop-horizon.horizon c.in-Some.answer (omega arith, omega arith) whole
    (subst (IsHorizonSettled c.args.plant.now c.args.budget (logs_in c.args.stem.now new) c.loop-horizon.horizon) c.in-Some.is c.in_ok-answer.ensures.settled)

pub returns-in-Some-clause-others : goal.returns-in-Some-clause-others
returns-in-Some-clause-others g c =
    let few = c.requires.sound.counts.periods.1 in
    let first = g.F.Shelf.files c.args.files.now in
    let old = g.F.Shelf.files c.loop-horizon.files in
    let new = g.F.Shelf.files c.log_at.new.files in
    let whole = still_infeasible c.args.plant.now c.args.budget c.args.stem.now c.loop-horizon.horizon old new (omega arith) c.log_at.ensures.others c.loop-horizon.invariant.whole in
    let past = found_untried c.args.plant.now c.args.budget (logs_in c.args.stem.now new) c.loop-horizon.horizon c.in-Some.answer (omega arith, omega arith) whole
    (subst (IsHorizonSettled c.args.plant.now c.args.budget (logs_in c.args.stem.now new) c.loop-horizon.horizon) c.in-Some.is c.in_ok-answer.ensures.settled) in
    subst (λ (n : ℕ). OthersStayBelow c.args.stem.now n first new) (sym past) (stay_below c.args.stem.now c.loop-horizon.horizon first old new (omega arith) c.loop-horizon.invariant.kept c.log_at.ensures.others)

pub loop-horizon-preserved : goal.loop-horizon-preserved
loop-horizon-preserved g c =
    let few = c.requires.sound.counts.periods.1 in
    let first = g.F.Shelf.files c.args.files.now in
    let old = g.F.Shelf.files c.loop-horizon.files in
    let new = g.F.Shelf.files c.log_at.new.files in
    let whole = still_infeasible c.args.plant.now c.args.budget c.args.stem.now c.loop-horizon.horizon old new (omega arith) c.log_at.ensures.others c.loop-horizon.invariant.whole in
    record {
      whole = one_more c.args.plant.now c.args.budget (logs_in c.args.stem.now new) c.loop-horizon.horizon whole
          (subst (IsHorizonSettled c.args.plant.now c.args.budget (logs_in c.args.stem.now new) c.loop-horizon.horizon) c.in_default.is c.in_ok-answer.ensures.settled);
      kept = stay_below c.args.stem.now c.loop-horizon.horizon first old new (omega arith) c.loop-horizon.invariant.kept c.log_at.ensures.others;
      readable = cc;
      writable = cc;
      no_read = cc;
      later = omega arith;
    }

pub returns-clause-least : goal.returns-clause-least
returns-clause-least g c =
    let e : c.loop-horizon.horizon ≡ c.args.plant.now.periods + 1 = omega arith in
    let logs = logs_in c.args.stem.now (g.F.Shelf.files c.loop-horizon.files) in
    found_nowhere c.args.plant.now c.args.budget logs (subst (λ (n : ℕ). AreInfeasible c.args.plant.now c.args.budget logs n) e c.loop-horizon.invariant.whole)
