use Rattle.std.proofs.Common.{◌++◌, List, arith, ap, sym, ◌∙◌}
use Rattle.plan_violations.specs.declared.breach.Breach.{Breach}
use Rattle.plan_violations.proofs.Meeting.{busy_some, busy_nothing, kept_by_none}
use Rattle.plan_violations.proofs.busy.push_met.Goals as goal

pub returns-in_ok-push : goal.returns-in_ok-push
returns-in_ok-push c =
    c.in_ok-push.ensures.items ∙ ap (λ (xs : List Breach). c.args.found.now.items ++ xs) (sym (busy_some c.args.plant.now c.args.plan.now c.args.place c.args.second c.requires.met (omega arith)))

pub returns-else-second-plan : goal.returns-else-second-plan
returns-else-second-plan c = kept_by_none c.args.found.now.items _ (busy_nothing c.args.plant.now c.args.plan.now c.args.place c.args.second c.requires.met (omega arith))
