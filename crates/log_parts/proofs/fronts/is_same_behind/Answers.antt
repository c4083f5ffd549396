-- What stands behind the sums of two heads, at a place of each.
use Rattle.std.proofs.Common.{◌∙◌, ℕ, Some, sym, ap, arith}
use Rattle.std.proofs.lemmas.Bool.Decides.{nat_tests}
use Rattle.derivations.specs.declared.derivation.Derivation.{Derivation}
use Rattle.log_parts.specs.Heads.{Derived, OfUnit}
use Rattle.log_parts.proofs.HeadsDiffer.{at_derivation, at_unit, has_derivation, has_unit, same_derivation, same_unit, units_apart, units_apart_back}
use Rattle.log_parts.proofs.fronts.is_same_behind.Goals as goal

pub returns-then-own_place-own_units : goal.returns-then-own_place-own_units
returns-then-own_place-own_units c =
    let u = c.get.result.now in
    let v = c.get-then-own_place-own_units.result.now in
    let one = at_unit c.args.given.now c.args.place u (omega (arith, c.if-place-units.true, c.len-units.ensures)) c.get.ensures in
    let other = at_unit c.args.own.now c.args.own_place v (omega (arith, c.if-own_place-own_units.true, c.len-own_units.ensures)) c.get-then-own_place-own_units.ensures in (
      λ yes. one ∙ ap (λ (x : ℕ). Some (OfUnit x)) (grind (arith, nat_tests, yes)) ∙ sym other,
      λ is. (let same = same_unit u v (sym one ∙ is ∙ other) in grind (arith, nat_tests, same)),
    )

pub returns-else-own_place-own_units : goal.returns-else-own_place-own_units
returns-else-own_place-own_units c =
    let high = c.if-own_place-own_units.false in
    let one = has_unit c.args.given.now c.args.place (omega (arith, c.if-place-units.true, c.len-units.ensures)) in
    let other = has_derivation c.args.own.now c.args.own_place (omega (arith, high, c.len-own_units.ensures)) c.requires.within_own in
    (λ yes. absurd (grind (arith, nat_tests, yes, high)), λ is. absurd (units_apart one.0 other.0 (sym one.1 ∙ is ∙ other.1)))

pub returns-then-own_place-own_units-2 : goal.returns-then-own_place-own_units-2
returns-then-own_place-own_units-2 c =
    let d = c.get-then-own_place-own_units-2.result.now in
    let e = c.get-then-own_place-own_units-2-2.result.now in
    let one = at_derivation c.args.given.now c.args.place c.len-units.result d c.len-units.ensures (omega (arith, c.if-place-units.false)) c.requires.within c.get-then-own_place-own_units-2.ensures in
    let other = at_derivation c.args.own.now c.args.own_place c.len-own_units.result e c.len-own_units.ensures (omega (arith, c.if-own_place-own_units-2.true)) c.requires.within_own c.get-then-own_place-own_units-2-2.ensures in (
      λ yes. one ∙ ap (λ (x : Derivation). Some (Derived x)) (c.is_same_derivation.ensures.0 yes) ∙ sym other,
      λ is. c.is_same_derivation.ensures.1 (same_derivation d e (sym one ∙ is ∙ other)),
    )

pub returns-else-own_place-own_units-2 : goal.returns-else-own_place-own_units-2
returns-else-own_place-own_units-2 c =
    let low = c.if-own_place-own_units-2.false in
    let one = has_derivation c.args.given.now c.args.place (omega (arith, c.if-place-units.false, c.len-units.ensures)) c.requires.within in
    let other = has_unit c.args.own.now c.args.own_place (omega (arith, low, c.len-own_units.ensures)) in
    (λ yes. absurd (grind (arith, nat_tests, yes, low)), λ is. absurd (units_apart_back other.0 one.0 (sym one.1 ∙ is ∙ other.1)))
