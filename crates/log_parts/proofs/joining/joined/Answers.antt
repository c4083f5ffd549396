-- One more claim, and all.
use Rattle.std.proofs.Common.{◌≡◌, List, [], ◌∷◌, ◌++◌, length, refl, sym, ap, subst, ◌∙◌, append_assoc, append-nil, arith}
use Rattle.std.specs.Vec.Iter.{into_iter_items}
use Rattle.proof_log.specs.declared.claim.Claim.{Claim}
use Rattle.log_parts.specs.Joining.{IsBestPlan, IsBestCap, better, greater}
use Rattle.log_parts.proofs.JoinedClaims.{plan-next, cap-next, joined-says}
use Rattle.log_parts.proofs.joining.joined.Goals as goal

pub loop-claim-preserved : goal.loop-claim-preserved
loop-claim-preserved c =
    let at = c.loop-claim in
    let claim = c.in-Some.claim in
    let later = into_iter_items c.next.new.self in
    let steps : into_iter_items at.claim-iterator ≡ claim ∷ later = c.in-Some.ensures.steps.0 in
    let long = ap length steps in
    let was = at.invariant.3 in
    let gone = c.in-Some.ensures.steps.1 in (
      subst (IsBestPlan (at.yielded ++ claim ∷ [])) (sym (c.better-plan.ensures ∙ ap (better at.plan) c.plan_of.ensures)) (plan-next at.yielded claim at.plan at.invariant.0),
      subst (IsBestCap (at.yielded ++ claim ∷ [])) (sym (c.greater-cap.ensures ∙ ap (greater at.cap) c.cap_of.ensures)) (cap-next at.yielded claim at.cap at.invariant.1),
      append_assoc at.yielded (claim ∷ []) later ∙ (ap (λ (xs : List Claim). at.yielded ++ xs) (sym steps) ∙ at.invariant.2),
      omega (arith, long, was, gone),
    )

nothing_left : (claims : List Claim) → length claims ≡ 0 → claims ≡ []
nothing_left [] h = refl
nothing_left (claim ∷ claims) h = absurd (omega (arith, h))

pub returns-clause-says : goal.returns-clause-says
returns-clause-says c =
    let at = c.loop-claim in
    let none : into_iter_items at.claim-iterator ≡ [] = nothing_left _ (sym at.invariant.3 ∙ c.in-None.ensures.steps.0) in
    let all : at.yielded ≡ c.args.claims.items = sym (append-nil at.yielded) ∙ (ap (λ (xs : List Claim). at.yielded ++ xs) (sym none) ∙ at.invariant.2) in
    λ plant levels.
    joined-says plant levels c.args.claims.items c.claim_with.result
    (record {
      plan = at.plan;
      cap = at.cap;
      best_plan = subst (λ (xs : List Claim). IsBestPlan xs at.plan) all at.invariant.0;
      best_cap = subst (λ (xs : List Claim). IsBestCap xs at.cap) all at.invariant.1;
      is = c.claim_with.ensures;
    })
