use Rattle.std.proofs.Common.{◌≡◌, ℕ, arith, subst}
use Rattle.plan_violations.specs.Meeting.{IsLeastIn}
use Rattle.plan_violations.proofs.Meeting.{least_empty}
use Rattle.plan_violations.proofs.busy.least_in.Goals as goal

pub returns-then-to-from : goal.returns-then-to-from
returns-then-to-from c = least_empty c.args.cells.now c.args.width c.args.row c.args.from c.args.to c.args.bound (omega arith)

pub returns : goal.returns
returns c =
    let end : c.loop-column.column ≡ c.args.to = omega arith in
    subst (λ (e : ℕ). IsLeastIn c.args.cells.now c.args.width c.args.row c.args.from e c.args.bound c.loop-column.least) end c.loop-column.invariant
