-- What is left, and that what is forgotten is worth at most the floor.
use Rattle.std.proofs.Common.{◌≡◌, ◌∙◌, ◌+◌, ℕ, ℤ, true, List, length, ap, sym, subst, arith, pos, ◌+ℤ◌, ◌*ℤ◌, ◌⊎◌, ◌≤ℤ◌}
use Rattle.std.proofs.lemmas.Int.{to_z-of_z}
use Rattle.row_kit.specs.declared.domain.Domain.{Domain}
use Rattle.row_kit.specs.Area.{present}
use Rattle.row_kit.specs.Domain.{Holds, domain_at, no_values}
use Rattle.row_kit.specs.Point.{LiesIn, value_of}
use Rattle.dual_bound.specs.Total.{has_total}
use Rattle.dual_bound.specs.Trimmed.{may_exceed, passing, total_with}
use Rattle.dual_bound.specs.laws.Reach.{IsTrimmed}
use Rattle.dual_bound.proofs.Floors.{true_at_most, at_most_true, trimmed_keeps, trimmed_length, trimmed_with, trimmed_without}
use Rattle.dual_bound.proofs.Passing.{each-at, passing_holds, passing_within}
use Rattle.dual_bound.proofs.trimming.trim.Goals as goal
use mir.Syntax.{w128}

pub returns-then-not-has_total-clause-left : goal.returns-then-not-has_total-clause-left
returns-then-not-has_total-clause-left c =
    let program = c.args.program.now in
    let ds = present c.args.area.now in
    sym (trimmed_without program ds c.args.cert.now c.args.floor (sym c.has_total.ensures.value ∙ c.if-not-has_total.true))

-- the marks after the trim, by the floor as it was passed
is_trimmed : (c : goal.After-trim_open) → IsTrimmed c.args.program.now c.args.cert.now c.args.floor c.args.area.now c.trim_open.new.area
is_trimmed c =
    subst (λ (x : ℤ). IsTrimmed c.args.program.now c.args.cert.now x c.args.area.now c.trim_open.new.area) (to_z-of_z w128 c.args.floor c.ranges.floor) c.trim_open.ensures

has : (c : goal.After-trim_open) → has_total c.args.program.now (present c.args.area.now) c.args.cert.now ≡ true
has c = sym c.has_total.ensures.value ∙ c.if-not-has_total.false

pub returns-clause-left : goal.returns-clause-left
returns-clause-left c = (is_trimmed c).left ∙ sym (trimmed_with c.args.program.now (present c.args.area.now) c.args.cert.now c.args.floor (has c))

pub returns-clause-values : goal.returns-clause-values
returns-clause-values c = λ _ slot v lt.
    let program = c.args.program.now in
    let cert = c.args.cert.now in
    let ds = present c.args.area.now in
    let d = domain_at ds slot in
    let may = may_exceed program ds cert c.args.floor in
    let least = pos cert.scale *ℤ (c.args.floor +ℤ pos 1) in
    let most = total_with program ds cert slot v in
    let at = ap (λ (xs : List Domain). domain_at xs slot) (is_trimmed c).left ∙ each-at may 0 ds slot no_values lt ∙ ap (λ (j : ℕ). passing (may j) d) (let e : 0 + slot ≡ slot = omega arith in e) in
    let normal' = c.slot_count-slots.ensures.normal slot no_values lt in (
      λ held. (
        passing_within (may slot) d v normal'.positive (subst (λ (x : Domain). Holds x v) at held),
        true_at_most least most ((is_trimmed c).passes slot v lt held),
      ),
      λ h. subst (λ (x : Domain). Holds x v) (sym at) (passing_holds (may slot) d v h.0 (at_most_true least most h.1)),
    )

pub returns-clause-forgets : goal.returns-clause-forgets
returns-clause-forgets c = λ point lies kept.
    let program = c.args.program.now in
    let ds = present c.args.area.now in
    subst (λ (xs : List Domain). LiesIn xs point ⊎ (value_of program point ≤ℤ c.args.floor)) (sym (returns-clause-left c))
    (trimmed_keeps program ds c.args.cert.now c.args.floor point (has c) lies kept)

pub returns-clause-slots : goal.returns-clause-slots
returns-clause-slots c = ap length (returns-clause-left c) ∙ trimmed_length c.args.program.now (present c.args.area.now) c.args.cert.now c.args.floor
