-- One value more is looked at.
use Rattle.std.proofs.Common.{rules, ◌≡◌, ◌<◌, ◌≤◌, subst, ⊎_elim, arith}
use Rattle.std.proofs.lemmas.Bool.{cases_lt}
use Rattle.derived_rows.specs.Line.{IsBelow}
use Rattle.derived_rows.proofs.LineSums.{nothing_below}
use Rattle.derived_rows.proofs.parts.Parts.are_below.Goals as goal

pub loop-value-preserved : goal.loop-value-preserved
loop-value-preserved c = λ v low lt.
    ⊎_elim
    (λ (before : v < c.loop-value.value). c.loop-value.invariant v low before)
    (λ (here : c.loop-value.value ≤ v).
    let same : c.loop-value.value ≡ v = omega arith in
    subst (IsBelow c.args.derived.now c.args.self.now) same (c.if-not-is_below.ensures.0 (search rules)))
    (cases_lt v c.loop-value.value)

pub returns-then-count_nothing : goal.returns-then-count_nothing
returns-then-count_nothing c =
    let none = c.if-count_nothing.ensures.0 (search rules) in
    (λ _ v some holds. nothing_below c.args.derived.now c.args.self.now none.0 none.1 none.2 v, λ _. search rules)
