-- What was added up is the total, and weak duality holds of it.
use Rattle.std.proofs.Common.{ℤ, ◌≡◌, ◌∙◌, ◌+ℤ◌, ◌*ℤ◌, pos, ◌<◌, ◌^◌, unsigned_abs, to_z, of_z, ap, sym, subst, arith}
use Rattle.std.proofs.lemmas.Int.{ints}
use Rattle.row_kit.specs.Area.{present}
use Rattle.dual_bound.specs.Total.{limits_sum, BoundsScaled}
use Rattle.dual_bound.proofs.Exchange.{duality}
use Rattle.dual_bound.proofs.Small.{total_small}
use Rattle.dual_bound.proofs.totals.usable_total.Goals as goal
use mir.Syntax.{w128}

pub returns-clause-value : goal.returns-clause-value
returns-clause-value c =
    let program = c.args.program.now in
    let cert = c.args.cert.now in
    let fixed = c.fixed_total.result in
    let gains = c.gains.result in
    let exact : to_z w128 (of_z w128 (to_z w128 (of_z w128 fixed) +ℤ to_z w128 (of_z w128 gains))) ≡ fixed +ℤ gains =
    omega (arith, ints, c.fixed_total.ensures.small, c.gains.ensures.small) in
    exact
    ∙ ap (λ (x : ℤ). x +ℤ gains) c.fixed_total.ensures.value
    ∙ ap (λ (x : ℤ). ((pos cert.scale *ℤ program.base) +ℤ limits_sum program.rows cert.mults) +ℤ x) c.gains.ensures.value

pub returns-clause-below : goal.returns-clause-below
returns-clause-below c =
    subst (λ (x : ℤ). unsigned_abs x < 10 ^ 30) (sym (returns-clause-value c))
    (total_small c.args.program.now (present c.args.area.now) c.args.cert.now c.requires.usable c.slot_count-slots.ensures.normal c.requires.slots)

pub returns-clause-small : goal.returns-clause-small
returns-clause-small c = omega (arith, returns-clause-below c)

pub returns-clause-duality : goal.returns-clause-duality
returns-clause-duality c =
    let program = c.args.program.now in
    let cert = c.args.cert.now in
    subst (BoundsScaled program (present c.args.area.now) cert.scale) (sym (returns-clause-value c))
    (duality program (present c.args.area.now) cert (λ k d h. (c.requires.usable.fit k d h).row))
