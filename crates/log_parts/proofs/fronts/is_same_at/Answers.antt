-- The items of two heads at one place.
use Rattle.std.proofs.Common.{◌∙◌, Some, sym, ap, arith}
use Rattle.std.proofs.lemmas.Bool.Decides.{nat_tests}
use Rattle.sum_slots.specs.declared.sum.Sum.{Sum}
use Rattle.log_parts.specs.Heads.{OfSum}
use Rattle.log_parts.proofs.HeadsDiffer.{at_sum, has_sum, item_behind, same_sum, sum_apart, within_behind}
use Rattle.log_parts.proofs.fronts.is_same_at.Goals as goal

pub returns-then-place-own_sums : goal.returns-then-place-own_sums
returns-then-place-own_sums c =
    let s = c.get.result.now in
    let t = c.get-then-place-own_sums.result.now in
    let one = at_sum c.args.given.now c.args.place s (omega (arith, c.if-place-sums.true, c.len-sums.ensures)) c.get.ensures in
    let other = at_sum c.args.own.now c.args.place t (omega (arith, c.if-place-own_sums.true, c.len-own_sums.ensures)) c.get-then-place-own_sums.ensures in (
      λ yes. one ∙ ap (λ (x : Sum). Some (OfSum x)) (c.is_same_sum.ensures.0 yes) ∙ sym other,
      λ is. c.is_same_sum.ensures.1 (same_sum s t (sym one ∙ is ∙ other)),
    )

pub returns-else-place-own_sums : goal.returns-else-place-own_sums
returns-else-place-own_sums c =
    let high = c.if-place-own_sums.false in
    let one = has_sum c.args.given.now c.args.place (omega (arith, c.if-place-sums.true, c.len-sums.ensures)) in
    let behind = item_behind c.args.own.now c.args.place (omega (arith, high, c.len-own_sums.ensures)) c.requires.within_own in
    let within = within_behind c.args.own.now c.args.place (omega (arith, high, c.len-own_sums.ensures)) c.requires.within_own in
    (λ yes. absurd (grind (arith, nat_tests, yes, high)), λ is. absurd (sum_apart c.args.own.now _ one.0 within (sym behind ∙ sym is ∙ one.1)))

pub is_same_behind-requires-clause-within : goal.is_same_behind-requires-clause-within
is_same_behind-requires-clause-within c = omega (arith, within_behind c.args.given.now c.args.place (omega (arith, c.if-place-sums.false, c.len-sums.ensures)) c.requires.within, c.len-sums.ensures)

pub is_same_behind-requires-clause-within_own : goal.is_same_behind-requires-clause-within_own
is_same_behind-requires-clause-within_own c =
    omega (arith, within_behind c.args.own.now c.args.place (omega (arith, c.if-place-own_sums-2.true, c.len-own_sums.ensures)) c.requires.within_own, c.len-own_sums.ensures)

pub returns-then-place-own_sums-2 : goal.returns-then-place-own_sums-2
returns-then-place-own_sums-2 c =
    let given = c.args.given.now in
    let own = c.args.own.now in
    let one = item_behind given c.args.place (omega (arith, c.if-place-sums.false, c.len-sums.ensures)) c.requires.within in
    let other = item_behind own c.args.place (omega (arith, c.if-place-own_sums-2.true, c.len-own_sums.ensures)) c.requires.within_own in
    grind (arith, nat_tests, one, other, c.is_same_behind.ensures)

pub returns-else-place-own_sums-2 : goal.returns-else-place-own_sums-2
returns-else-place-own_sums-2 c =
    let low = c.if-place-own_sums-2.false in
    let behind = item_behind c.args.given.now c.args.place (omega (arith, c.if-place-sums.false, c.len-sums.ensures)) c.requires.within in
    let within = within_behind c.args.given.now c.args.place (omega (arith, c.if-place-sums.false, c.len-sums.ensures)) c.requires.within in
    let other = has_sum c.args.own.now c.args.place (omega (arith, low, c.len-own_sums.ensures)) in
    (λ yes. absurd (grind (arith, nat_tests, yes, low)), λ is. absurd (sum_apart c.args.given.now _ other.0 within (sym behind ∙ is ∙ other.1)))
