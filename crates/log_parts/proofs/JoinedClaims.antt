-- What joined claims say, and how one more claim is joined.
use Rattle.std.proofs.Common.{◌≡◌, ℕ, ℤ, ◌<◌, ◌^◌, true, false, Option, Some, None, List, [], ◌∷◌, ◌++◌, length, get_or, refl, sym, ap, ◌∙◌, subst, arith, append_assoc}
use Rattle.std.specs.Prelude.{◌≤ℤ◌, ◌<ℤ◌, int_lt, if◌then◌else◌, is_some, IfSome}
use Rattle.std.specs.List.{All}
use Rattle.std.proofs.lemmas.Bool.{cond-true, cond-false, false≢true}
use Rattle.std.proofs.lemmas.Int.{by_lt_z, ints}
use Rattle.std.proofs.Math.ListN.{get_or-append}
use Rattle.std.proofs.Math.Seq.{get_or-append_seam}
use Rattle.std.proofs.lemmas.List.{length-append}
use Rattle.std.proofs.lemmas.List.Elements.{All-push, All-append, All-cons}
use Rattle.stn_model.specs.declared.plant.Plant.{Plant}
use Rattle.stn_model.specs.declared.start.Start.{Start}
use Rattle.stn_model.specs.Feasible.{Feasible}
use Rattle.stn_model.specs.Profit.{profit}
use Rattle.row_set.specs.Parts.{plan_of_values}
use Rattle.proof_log.specs.declared.claim.Claim.{Claim}
use Rattle.proof_log.specs.declared.claim.Claim.TheVariants.{Optimal, Infeasible, Between, Below}
use Rattle.proof_log.specs.ClaimSays.{HasWorth, NoneAbove}
use Rattle.valid_log.specs.Claims.{SaysOf, SaysOfPlans}
use Rattle.log_parts.specs.declared.joining.ClaimedPlan.{ClaimedPlan}
use Rattle.plant_parts.specs.PlantParts.{IsOfPart}
use Rattle.log_parts.specs.Joining.{plan_of, cap_of, EarnsAtMost, ProfitBelow, IsCapped, IsBestOf, IsGreatestCap, IsBestPlan, IsBestCap, claim_with, IsJoined, EachSays, better, greater}
use Rattle.plant_parts.proofs.Meaning.{of-some}

-- what holds of both numbers of a test holds of the one that it takes
pub by-less : {X : Type 0} (a b : ℤ) (P : X → Type 0) (x y : X) → (a <ℤ b → P x) → (b ≤ℤ a → P y) → P (if int_lt a b then x else y)
by-less a b P x y less least =
    by_lt_z a b
    (λ l. let e : int_lt a b ≡ true = grind (arith, ints) in subst P (sym (cond-true _ _ _ e)) (less l))
    (λ m. let e : int_lt a b ≡ false = grind (arith, ints) in subst P (sym (cond-false _ _ _ e)) (least m))

-- what a claim's plan is, where the claim holds
plan-holds : (plant : Plant) (admits : List Start → Type 0) (claim : Claim) → SaysOf plant admits claim →
    IfSome (plan_of claim) (λ plan. HasWorth admits (profit plant) (plan_of_values plant plan.point) plan.profit)
plan-holds plant admits (Optimal worth point) says = says.0
plan-holds plant admits Infeasible says = tt
plan-holds plant admits (Between worth most point) says = says.0
plan-holds plant admits (Below most) says = tt

-- where a claim holds and a plan is admitted, the claim has a cap, and the plan earns no more
cap-holds : (plant : Plant) (admits : List Start → Type 0) (claim : Claim) (plan : List Start) → SaysOf plant admits claim → admits plan →
    (cap : ℤ) × ((cap_of claim ≡ Some cap) × (profit plant plan ≤ℤ cap))
cap-holds plant admits (Optimal worth point) plan says is = (worth, (refl, says.1 plan is))
cap-holds plant admits Infeasible plan says is = absurd (says plan is)
cap-holds plant admits (Between worth most point) plan says is = (most, (refl, says.1 plan is))
cap-holds plant admits (Below most) plan says is = (most, (refl, says plan is))

pub seam : (xs : List Claim) (y : Claim) (ys : List Claim) → get_or (xs ++ y ∷ ys) (length xs) Infeasible ≡ y
seam xs y ys = get_or-append_seam xs y ys Infeasible

-- the best plan is a feasible one of that profit
best-holds : (plant : Plant) (levels : ℕ) (claims : List Claim) (plan : ClaimedPlan) → EachSays plant levels claims → IsBestOf claims plan →
    HasWorth (Feasible plant) (profit plant) (plan_of_values plant plan.point) plan.profit
best-holds plant levels claims plan each best =
    let place = length best.before in
    let there : place < length claims = omega (arith, ap length best.are, length-append best.before (best.claim ∷ best.after)) in
    let here : get_or claims place Infeasible ≡ best.claim = ap (λ (xs : List Claim). get_or xs place Infeasible) best.are ∙ seam best.before best.claim best.after in
    let says : SaysOf plant (IsOfPart plant levels place) best.claim = subst (SaysOf plant (IsOfPart plant levels place)) here (each place there) in
    let worth : HasWorth (IsOfPart plant levels place) (profit plant) (plan_of_values plant plan.point) plan.profit =
    subst (λ (o : Option ClaimedPlan). IfSome o (λ own. HasWorth (IsOfPart plant levels place) (profit plant) (plan_of_values plant own.point) own.profit)) best.has
    (plan-holds plant (IsOfPart plant levels place) best.claim says) in
    (worth.0.feasible, worth.1)

-- a feasible plan earns no more than the cap of the claim of its part
some-cap : (plant : Plant) (levels : ℕ) (claims : List Claim) (plan : List Start) → length claims ≡ 2 ^ levels → EachSays plant levels claims → Feasible plant plan →
    (part : ℕ) × ((part < length claims) × ((cap : ℤ) × ((cap_of (get_or claims part Infeasible) ≡ Some cap) × (profit plant plan ≤ℤ cap))))
some-cap plant levels claims plan long each feasible =
    let found = of-some plant levels plan feasible in
    let there : found.0 < length claims = omega (arith, found.1.0, long) in
    (found.0, (there, cap-holds plant (IsOfPart plant levels found.0) (get_or claims found.0 Infeasible) plan (each found.0 there) found.1.1))

-- no feasible plan earns more than the greatest cap
none-above : (plant : Plant) (levels : ℕ) (claims : List Claim) (cap : ℤ) → length claims ≡ 2 ^ levels → EachSays plant levels claims → IsGreatestCap claims cap →
    NoneAbove (Feasible plant) (profit plant) cap
none-above plant levels claims cap long each greatest plan feasible =
    let found = some-cap plant levels claims plan long each feasible in
    let capped : found.1.1.0 ≤ℤ cap = subst (λ (o : Option ℤ). IfSome o (λ own. own ≤ℤ cap)) found.1.1.1.0 (greatest.most found.0 Infeasible found.1.0) in
    let earns : profit plant plan ≤ℤ found.1.1.0 = found.1.1.1.1 in
    omega (arith, ints, capped, earns)

-- where no claim has a cap, no plan is feasible
none-feasible : (plant : Plant) (levels : ℕ) (claims : List Claim) → length claims ≡ 2 ^ levels → EachSays plant levels claims → All (λ claim. cap_of claim ≡ None) claims →
    (plan : List Start) → ¬ Feasible plant plan
none-feasible plant levels claims long each none plan feasible =
    let found = some-cap plant levels claims plan long each feasible in
    false≢true (sym (ap is_some (none found.0 Infeasible found.1.0)) ∙ ap is_some found.1.1.1.0)

-- what the best plan and the greatest cap claim holds
with-says : (plant : Plant) (levels : ℕ) (claims : List Claim) (plan : Option ClaimedPlan) (cap : Option ℤ) → length claims ≡ 2 ^ levels → EachSays plant levels claims →
    IsBestPlan claims plan → IsBestCap claims cap → SaysOfPlans plant (claim_with plan cap)
with-says plant levels claims (Some plan) (Some cap) long each best greatest =
    let holds = best-holds plant levels claims plan each best in
    let above = none-above plant levels claims cap long each greatest in
    by-less plan.profit cap (SaysOfPlans plant) (Between plan.profit cap plan.point) (Optimal plan.profit plan.point)
    (λ less. (holds, above))
    (λ least. (holds, λ other feasible. let most = above other feasible in omega (arith, ints, least, most)))
with-says plant levels claims (Some plan) None long each best none =
    (best-holds plant levels claims plan each best, λ other feasible. absurd (none-feasible plant levels claims long each none other feasible))
with-says plant levels claims None (Some cap) long each best greatest = none-above plant levels claims cap long each greatest
with-says plant levels claims None None long each best none = none-feasible plant levels claims long each none

-- where each claim holds of its part, the joined claim holds of all feasible plans
pub joined-says : (plant : Plant) (levels : ℕ) (claims : List Claim) (claim : Claim) → IsJoined claims claim → length claims ≡ 2 ^ levels → EachSays plant levels claims → SaysOfPlans plant claim
joined-says plant levels claims claim is long each =
    subst (SaysOfPlans plant) (sym is.is) (with-says plant levels claims is.plan is.cap long each is.best_plan is.best_cap)

-- what is below a number is below a greater one
raised : (o : Option ClaimedPlan) (a b : ℤ) → a <ℤ b → IfSome o (λ plan. plan.profit ≤ℤ a) → IfSome o (λ plan. plan.profit <ℤ b)
raised None a b less is = tt
raised (Some plan) a b less is = omega (arith, ints, less, is)

weakened : (o : Option ClaimedPlan) (a : ℤ) → IfSome o (λ plan. plan.profit <ℤ a) → IfSome o (λ plan. plan.profit ≤ℤ a)
weakened None a is = tt
weakened (Some plan) a is = omega (arith, ints, is)

-- all claims earn below what is above the best
all-below : (claims : List Claim) (plan : ClaimedPlan) (more : ℤ) → IsBestOf claims plan → plan.profit <ℤ more → All (ProfitBelow more) claims
all-below claims plan more best less =
    subst (All (ProfitBelow more)) (sym best.are)
    (All-append (ProfitBelow more) best.before (best.claim ∷ best.after)
    (λ k d l. raised (plan_of (get_or best.before k d)) plan.profit more less (weakened (plan_of (get_or best.before k d)) plan.profit (best.more k d l)))
    (All-cons (ProfitBelow more) best.claim best.after
    (subst (λ (o : Option ClaimedPlan). IfSome o (λ own. own.profit <ℤ more)) (sym best.has) less)
    (λ k d l. raised (plan_of (get_or best.after k d)) plan.profit more less (best.no_less k d l))))

-- the best plan stays best
stays : (claims : List Claim) (claim : Claim) (plan : ClaimedPlan) → IsBestOf claims plan → EarnsAtMost plan.profit claim → IsBestOf (claims ++ claim ∷ []) plan
stays claims claim plan best most = record {
  before = best.before;
  claim = best.claim;
  after = best.after ++ claim ∷ [];
  are = ap (λ (xs : List Claim). xs ++ claim ∷ []) best.are ∙ append_assoc best.before (best.claim ∷ best.after) (claim ∷ []);
  has = best.has;
  more = best.more;
  no_less = All-push (EarnsAtMost plan.profit) best.after claim best.no_less most;
}

-- the last plan is best
last-best : (claims : List Claim) (claim : Claim) (plan : ClaimedPlan) → plan_of claim ≡ Some plan → All (ProfitBelow plan.profit) claims → IsBestOf (claims ++ claim ∷ []) plan
last-best claims claim plan has more = record { before = claims; claim = claim; after = []; are = refl; has = has; more = more; no_less = λ k d l. absurd (omega arith) }

plan-step : (claims : List Claim) (claim : Claim) (first second : Option ClaimedPlan) → plan_of claim ≡ second → IsBestPlan claims first → IsBestPlan (claims ++ claim ∷ []) (better first second)
plan-step claims claim None None e best = All-push (λ own. plan_of own ≡ None) claims claim best e
plan-step claims claim None (Some b) e best =
    last-best claims claim b e (λ k d l. subst (λ (o : Option ClaimedPlan). IfSome o (λ own. own.profit <ℤ b.profit)) (sym (best k d l)) tt)
plan-step claims claim (Some a) None e best =
    stays claims claim a best (subst (λ (o : Option ClaimedPlan). IfSome o (λ own. own.profit ≤ℤ a.profit)) (sym e) tt)
plan-step claims claim (Some a) (Some b) e best =
    by-less a.profit b.profit (IsBestPlan (claims ++ claim ∷ [])) (Some b) (Some a)
    (λ less. last-best claims claim b e (all-below claims a b.profit best less))
    (λ least. stays claims claim a best (subst (λ (o : Option ClaimedPlan). IfSome o (λ own. own.profit ≤ℤ a.profit)) (sym e) least))

-- the better plan of one more claim
pub plan-next : (claims : List Claim) (claim : Claim) (first : Option ClaimedPlan) → IsBestPlan claims first → IsBestPlan (claims ++ claim ∷ []) (better first (plan_of claim))
plan-next claims claim first best = plan-step claims claim first (plan_of claim) refl best

-- the greatest cap stays greatest
cap-stays : (claims : List Claim) (claim : Claim) (cap : ℤ) → IsGreatestCap claims cap → IsCapped cap claim → IsGreatestCap (claims ++ claim ∷ []) cap
cap-stays claims claim cap best most = record {
  place = best.place;
  within = (let l = best.within in omega (arith, l, length-append claims (claim ∷ [])));
  has = ap cap_of (get_or-append claims (claim ∷ []) Infeasible best.place best.within) ∙ best.has;
  most = All-push (IsCapped cap) claims claim best.most most;
}

-- the last cap is greatest
last-cap : (claims : List Claim) (claim : Claim) (cap : ℤ) → cap_of claim ≡ Some cap → All (IsCapped cap) claims → IsGreatestCap (claims ++ claim ∷ []) cap
last-cap claims claim cap has most = record {
  place = length claims;
  within = omega (arith, length-append claims (claim ∷ []));
  has = ap cap_of (seam claims claim []) ∙ has;
  most = All-push (IsCapped cap) claims claim most (subst (λ (o : Option ℤ). IfSome o (λ own. own ≤ℤ cap)) (sym has) (omega (arith, ints)));
}

-- a cap of at most a number is at most a greater one
cap-raised : (o : Option ℤ) (a b : ℤ) → a <ℤ b → IfSome o (λ cap. cap ≤ℤ a) → IfSome o (λ cap. cap ≤ℤ b)
cap-raised None a b less is = tt
cap-raised (Some cap) a b less is = omega (arith, ints, less, is)

cap-step : (claims : List Claim) (claim : Claim) (first second : Option ℤ) → cap_of claim ≡ second → IsBestCap claims first → IsBestCap (claims ++ claim ∷ []) (greater first second)
cap-step claims claim None None e best = All-push (λ own. cap_of own ≡ None) claims claim best e
cap-step claims claim None (Some b) e best =
    last-cap claims claim b e (λ k d l. subst (λ (o : Option ℤ). IfSome o (λ own. own ≤ℤ b)) (sym (best k d l)) tt)
cap-step claims claim (Some a) None e best =
    cap-stays claims claim a best (subst (λ (o : Option ℤ). IfSome o (λ own. own ≤ℤ a)) (sym e) tt)
cap-step claims claim (Some a) (Some b) e best =
    by-less a b (IsBestCap (claims ++ claim ∷ [])) (Some b) (Some a)
    (λ less. last-cap claims claim b e (λ k d l. cap-raised (cap_of (get_or claims k d)) a b less (best.most k d l)))
    (λ least. cap-stays claims claim a best (subst (λ (o : Option ℤ). IfSome o (λ own. own ≤ℤ a)) (sym e) least))

-- the greater cap of one more claim
pub cap-next : (claims : List Claim) (claim : Claim) (first : Option ℤ) → IsBestCap claims first → IsBestCap (claims ++ claim ∷ []) (greater first (cap_of claim))
cap-next claims claim first best = cap-step claims claim first (cap_of claim) refl best
