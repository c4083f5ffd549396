-- Claims whose points are completed by the values of sums.
use Rattle.std.proofs.Common.{◌≡◌, ℕ, ℤ, ◌<◌, Bool, true, false, Option, Some, None, List, ◌∷◌, length, map, get_or, refl, sym, ap, ◌∙◌, subst, arith, inl}
use Rattle.std.specs.Prelude.{◌≤ℤ◌, int_lt, if◌then◌else◌, IfSome}
use Rattle.std.specs.Option.{option_map}
use Rattle.std.proofs.lemmas.List.{get_or-map, length-map, map-append}
use Rattle.std.proofs.lemmas.List.Elements.{All-map, All-weaker}
use Rattle.row_kit.specs.declared.program.Program.{Program}
use Rattle.row_kit.specs.Point.{IsLawful}
use Rattle.row_relax.specs.Settle.{is_lawful}
use Rattle.row_relax.specs.laws.Lawful.{lawful_true, true_lawful}
use Rattle.proof_tree.specs.declared.capped.Capped.{Capped}
use Rattle.proof_log.specs.declared.claim.Claim.{Claim}
use Rattle.proof_log.specs.declared.claim.Claim.TheVariants.{Optimal, Infeasible, Between, Below}
use Rattle.valid_log.proofs.FoundSound.{IsFinePoint}
use Rattle.sum_slots.specs.declared.sum.Sum.{Sum}
use Rattle.sum_slots.specs.Larger.{completed, given_of}
use Rattle.plan_images.proofs.Imaging.{HaveSamePoints}
use Rattle.valid_log.specs.AnyVersion.{given_claim}
use Rattle.valid_log.specs.SumTexts.{larger_claim}
use Rattle.log_parts.specs.declared.joining.ClaimedPlan.{ClaimedPlan}
use Rattle.log_parts.specs.Joining.{plan_of, cap_of, EarnsAtMost, ProfitBelow, IsCapped, IsBestPlan, IsBestCap, claim_with, IsJoined}
use Rattle.log_parts.specs.laws.Copying.{IsPointed}
use Rattle.log_parts.proofs.JoinedClaims.{by-less}
use Rattle.log_parts.proofs.JoinedSound.{HasNoDefect, best-place, plan-fine}

-- ---- what a claim with a larger point has

-- a plan with its point completed
abbrev larger_plan : List Sum → ClaimedPlan → ClaimedPlan
larger_plan sums plan = record { profit = plan.profit; point = completed sums plan.point }

plan-larger : (sums : List Sum) (claim : Claim) → plan_of (larger_claim sums claim) ≡ option_map (larger_plan sums) (plan_of claim)
plan-larger sums (Optimal profit point) = refl
plan-larger sums Infeasible = refl
plan-larger sums (Between profit most point) = refl
plan-larger sums (Below most) = refl

cap-larger : (sums : List Sum) (claim : Claim) → cap_of (larger_claim sums claim) ≡ cap_of claim
cap-larger sums (Optimal profit point) = refl
cap-larger sums Infeasible = refl
cap-larger sums (Between profit most point) = refl
cap-larger sums (Below most) = refl

below-larger : (sums : List Sum) (profit : ℤ) (claim : Claim) → ProfitBelow profit claim → ProfitBelow profit (larger_claim sums claim)
below-larger sums profit (Optimal own point) is = is
below-larger sums profit Infeasible is = is
below-larger sums profit (Between own most point) is = is
below-larger sums profit (Below most) is = is

most-larger : (sums : List Sum) (profit : ℤ) (claim : Claim) → EarnsAtMost profit claim → EarnsAtMost profit (larger_claim sums claim)
most-larger sums profit (Optimal own point) is = is
most-larger sums profit Infeasible is = is
most-larger sums profit (Between own most point) is = is
most-larger sums profit (Below most) is = is

larger-if : (sums : List Sum) (b : Bool) (x y : Claim) → larger_claim sums (if b then x else y) ≡ (if b then larger_claim sums x else larger_claim sums y)
larger-if sums true x y = refl
larger-if sums false x y = refl

with-larger : (sums : List Sum) (plan : Option ClaimedPlan) (cap : Option ℤ) → larger_claim sums (claim_with plan cap) ≡ claim_with (option_map (larger_plan sums) plan) cap
with-larger sums (Some plan) (Some cap) = larger-if sums (int_lt plan.profit cap) (Between plan.profit cap plan.point) (Optimal plan.profit plan.point)
with-larger sums (Some plan) None = refl
with-larger sums None (Some cap) = refl
with-larger sums None None = refl

-- ---- joined claims

best-larger : (sums : List Sum) (claims : List Claim) (plan : Option ClaimedPlan) → IsBestPlan claims plan → IsBestPlan (map (larger_claim sums) claims) (option_map (larger_plan sums) plan)
best-larger sums claims None none =
    All-map (λ (claim : Claim). plan_of claim ≡ None) (larger_claim sums) claims
    (All-weaker (λ (claim : Claim). plan_of claim ≡ None) (λ (claim : Claim). plan_of (larger_claim sums claim) ≡ None) (λ claim is. plan-larger sums claim ∙ ap (option_map (larger_plan sums)) is) claims none)
best-larger sums claims (Some plan) best = record {
  before = map (larger_claim sums) best.before;
  claim = larger_claim sums best.claim;
  after = map (larger_claim sums) best.after;
  are = ap (map (larger_claim sums)) best.are ∙ map-append (larger_claim sums) best.before (best.claim ∷ best.after);
  has = plan-larger sums best.claim ∙ ap (option_map (larger_plan sums)) best.has;
  more = All-map (ProfitBelow plan.profit) (larger_claim sums) best.before
      (All-weaker (ProfitBelow plan.profit) (λ (claim : Claim). ProfitBelow plan.profit (larger_claim sums claim)) (below-larger sums plan.profit) best.before best.more);
  no_less = All-map (EarnsAtMost plan.profit) (larger_claim sums) best.after
      (All-weaker (EarnsAtMost plan.profit) (λ (claim : Claim). EarnsAtMost plan.profit (larger_claim sums claim)) (most-larger sums plan.profit) best.after best.no_less);
}

-- the claim at a place, with its point completed
pub claim-at : (sums : List Sum) (claims : List Claim) (place : ℕ) → place < length claims → get_or (map (larger_claim sums) claims) place Infeasible ≡ larger_claim sums (get_or claims place Infeasible)
claim-at sums claims place within = get_or-map (larger_claim sums) claims place Infeasible Infeasible within

caps-larger : (sums : List Sum) (claims : List Claim) (cap : Option ℤ) → IsBestCap claims cap → IsBestCap (map (larger_claim sums) claims) cap
caps-larger sums claims None none =
    All-map (λ (claim : Claim). cap_of claim ≡ None) (larger_claim sums) claims
    (All-weaker (λ (claim : Claim). cap_of claim ≡ None) (λ (claim : Claim). cap_of (larger_claim sums claim) ≡ None) (λ claim is. cap-larger sums claim ∙ is) claims none)
caps-larger sums claims (Some cap) best = record {
  place = best.place;
  within = (let within = best.within in omega (arith, within, length-map claims (larger_claim sums)));
  has = ap cap_of (claim-at sums claims best.place best.within) ∙ cap-larger sums (get_or claims best.place Infeasible) ∙ best.has;
  most = All-map (IsCapped cap) (larger_claim sums) claims
      (All-weaker (IsCapped cap) (λ (claim : Claim). IsCapped cap (larger_claim sums claim)) (λ claim is. subst (λ (o : Option ℤ). IfSome o (λ own. own ≤ℤ cap)) (sym (cap-larger sums claim)) is) claims best.most);
}

-- claims with larger points are joined to the joined claim with its point completed
pub joined-larger : (sums : List Sum) (claims : List Claim) (claim : Claim) → IsJoined claims claim → IsJoined (map (larger_claim sums) claims) (larger_claim sums claim)
joined-larger sums claims claim joined = record {
  plan = option_map (larger_plan sums) joined.plan;
  cap = joined.cap;
  best_plan = best-larger sums claims joined.plan joined.best_plan;
  best_cap = caps-larger sums claims joined.cap joined.best_cap;
  is = ap (larger_claim sums) joined.is ∙ with-larger sums joined.plan joined.cap;
}

-- ---- lawful points

-- a point without a defect is lawful
fine-lawful : (program : Program) (value : ℤ) (point : List ℕ) → IsFinePoint program value point → IsLawful program point
fine-lawful program value point fine = by (is_lawful program point) refl
  where
    by : (b : Bool) → is_lawful program point ≡ b → IsLawful program point
    by true is = true_lawful program point is
    by false is = absurd (fine 13 (inl (refl, λ (lawful : IsLawful program point). let no : true ≡ false = sym (lawful_true program point lawful) ∙ is in cc)))

-- the point of a claim without a defect is lawful
pub fine-pointed : (program : Program) (proof_cap : Capped) (claim : Claim) → HasNoDefect program proof_cap claim → IsPointed program claim
fine-pointed program proof_cap claim none = by (plan_of claim) refl
  where
    by : (plan : Option ClaimedPlan) → plan_of claim ≡ plan → IfSome plan (λ own. IsLawful program own.point)
    by None is = tt
    by (Some plan) is = fine-lawful program plan.profit plan.point (plan-fine program proof_cap claim plan none is)

-- the claim of a log over a program with sums is that of the log over the program, with its point completed
pub own-larger : (program larger : Program) (sums : List Sum) (own : Claim) → HaveSamePoints program larger (completed sums) (given_of program) → IsPointed larger own
    → (own ≡ larger_claim sums (given_claim (length program.root) own)) × IsPointed program (given_claim (length program.root) own)
own-larger program larger sums (Optimal profit point) same lawful = (ap (Optimal profit) (sym (same.back_there point lawful)), (same.back_is point lawful).0)
own-larger program larger sums Infeasible same lawful = (refl, tt)
own-larger program larger sums (Between profit most point) same lawful = (ap (Between profit most) (sym (same.back_there point lawful)), (same.back_is point lawful).0)
own-larger program larger sums (Below most) same lawful = (refl, tt)

-- a claim with its point completed, cut back
pub given-larger : (program larger : Program) (sums : List Sum) (claim : Claim) → HaveSamePoints program larger (completed sums) (given_of program) → IsPointed program claim → claim ≡ given_claim (length program.root) (larger_claim sums claim)
given-larger program larger sums (Optimal profit point) same lawful = ap (Optimal profit) (sym (same.there_back point lawful))
given-larger program larger sums Infeasible same lawful = refl
given-larger program larger sums (Between profit most point) same lawful = ap (Between profit most) (sym (same.there_back point lawful))
given-larger program larger sums (Below most) same lawful = refl

plan-with : (plan : Option ClaimedPlan) (cap : Option ℤ) → plan_of (claim_with plan cap) ≡ plan
plan-with (Some plan) (Some cap) =
    by-less plan.profit cap (λ (claim : Claim). plan_of claim ≡ Some plan) (Between plan.profit cap plan.point) (Optimal plan.profit plan.point) (λ less. refl) (λ least. refl)
plan-with (Some plan) None = refl
plan-with None (Some cap) = refl
plan-with None None = refl

-- the point of the joined claim is lawful where those of the claims are
pub joined-pointed : (program : Program) (claims : List Claim) (claim : Claim) → IsJoined claims claim → ((place : ℕ) → place < length claims → IsPointed program (get_or claims place Infeasible)) → IsPointed program claim
joined-pointed program claims claim joined each =
    subst (λ (o : Option ClaimedPlan). IfSome o (λ own. IsLawful program own.point)) (sym (ap plan_of joined.is ∙ plan-with joined.plan joined.cap)) (by joined.plan joined.best_plan)
  where
    by : (plan : Option ClaimedPlan) → IsBestPlan claims plan → IfSome plan (λ own. IsLawful program own.point)
    by None best = tt
    by (Some plan) best =
        let found = best-place claims plan best in
        subst (λ (o : Option ClaimedPlan). IfSome o (λ own. IsLawful program own.point)) found.1.1 (each found.0 found.1.0)
