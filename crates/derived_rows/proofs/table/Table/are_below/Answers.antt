-- One slot more is looked at.
use Rattle.std.proofs.Common.{rules, ℕ, ◌≡◌, ◌<◌, ◌≤◌, false, ◌∙◌, ap, sym, subst, ⊎_elim, arith}
use Rattle.std.proofs.lemmas.Bool.{cases_lt}
use Rattle.std.proofs.lemmas.List.{get_or_default}
use Rattle.row_kit.specs.declared.domain.Domain.{Domain}
use Rattle.row_kit.specs.Domain.{Holds, domain_at, no_values}
use Rattle.derived_rows.specs.declared.parts.Parts.{Parts}
use Rattle.derived_rows.specs.Line.{IsBelow}
use Rattle.derived_rows.specs.Table.{parts_at}
use Rattle.derived_rows.proofs.table.Table.are_below.Goals as goal

pub loop-slot-preserved : goal.loop-slot-preserved
loop-slot-preserved c = λ slot value lt some holds.
    let derived = c.args.derived.now in
    let table = c.args.self.now in
    let at = c.loop-slot.slot in
    ⊎_elim
    (λ (before : slot < at). c.loop-slot.invariant slot value before some holds)
    (λ (here : at ≤ slot).
    let same : slot ≡ at = omega arith in
    let held = subst (λ (s : ℕ). Holds (domain_at c.args.domains.now s) value) same holds in
    let domain = get_or_default c.args.domains.now at no_values (record { zero = false; lo = 0; hi = 0 }) c.loop-slot-test.true in
    let below = c.if-not-are_below.ensures.0 (search rules) value some (subst (λ (d : Domain). Holds d value) domain held) in
    subst (λ (p : Parts). IsBelow derived p value) (c.parts.ensures ∙ ap (parts_at table) (sym same)) below)
    (cases_lt slot at)
