-- A joined claim has no defect under the cap of the joined proof, where the claims of the parts have none under theirs.
use Rattle.std.proofs.Common.{◌≡◌, ◌≢◌, ℕ, ℤ, ◌<◌, Option, Some, None, List, ◌∷◌, length, get_or, refl, ap, ◌∙◌, subst, arith, inl, inr}
use Rattle.std.specs.Prelude.{◌≤ℤ◌, ◌<ℤ◌, IfSome}
use Rattle.std.specs.Int.{int_max}
use Rattle.std.proofs.lemmas.Int.{ints, clamps}
use Rattle.std.proofs.lemmas.List.{length-append}
use Rattle.row_kit.specs.declared.program.Program.{Program}
use Rattle.row_kit.specs.Point.{IsLawful, worth_of}
use Rattle.proof_tree.specs.declared.capped.Capped.{Capped}
use Rattle.proof_tree.specs.declared.capped.Capped.TheVariants.{AtMost, NoPoint, Bad}
use Rattle.proof_tree.specs.Cap.{greater}
use Rattle.proof_log.specs.declared.claim.Claim.{Claim}
use Rattle.proof_log.specs.declared.claim.Claim.TheVariants.{Optimal, Infeasible, Between, Below}
use Rattle.valid_log.specs.Meaning.{AllowsMore, AllowsPoint, CappedDefect, ClaimDefect}
use Rattle.valid_log.proofs.FoundSound.{IsFinePoint, no_capped}
use Rattle.log_parts.specs.declared.joining.ClaimedPlan.{ClaimedPlan}
use Rattle.log_parts.specs.Joining.{plan_of, cap_of, IsBestOf, claim_with}
use Rattle.log_parts.proofs.JoinedClaims.{by-less, seam}

-- ---- the greater of two caps

pub greater-real : (a b : Capped) → a ≢ Bad → b ≢ Bad → greater a b ≢ Bad
greater-real Bad b one other = absurd (one refl)
greater-real NoPoint b one other = other
greater-real (AtMost m) Bad one other = absurd (other refl)
greater-real (AtMost m) NoPoint one other = one
greater-real (AtMost m) (AtMost n) one other = λ e. cc

-- a cap is not above a number
abbrev pub IsNotAbove : ℤ → Capped → Type 0
IsNotAbove most proof_cap = ¬ AllowsMore proof_cap most

max_above : (n a b : ℤ) → n <ℤ int_max a b → (¬ (n <ℤ a)) → (¬ (n <ℤ b)) → ⊥
max_above n a b above one other = grind (arith, ints, clamps, one, other)

pub greater-not_above : (most : ℤ) (a b : Capped) → IsNotAbove most a → IsNotAbove most b → IsNotAbove most (greater a b)
greater-not_above most Bad b one other = one
greater-not_above most NoPoint b one other = other
greater-not_above most (AtMost m) Bad one other = other
greater-not_above most (AtMost m) NoPoint one other = one
greater-not_above most (AtMost m) (AtMost n) one other = λ above. max_above most m n above one other

-- a cap allows no point
abbrev pub AllowsNone : Capped → Type 0
AllowsNone proof_cap = ¬ AllowsPoint proof_cap

pub greater-allows_none : (a b : Capped) → AllowsNone a → AllowsNone b → AllowsNone (greater a b)
greater-allows_none Bad b one other = one
greater-allows_none NoPoint b one other = other
greater-allows_none (AtMost m) b one other = absurd (one tt)

-- a cap that is not above a number is not above a greater one
above-less : (proof_cap : Capped) (low high : ℤ) → low ≤ℤ high → IsNotAbove low proof_cap → IsNotAbove high proof_cap
above-less (AtMost n) low high less not = λ above. not (omega (arith, ints, less, above))
above-less NoPoint low high less not = λ above. above
above-less Bad low high less not = λ above. above

none-above : (proof_cap : Capped) (most : ℤ) → AllowsNone proof_cap → IsNotAbove most proof_cap
none-above (AtMost n) most none = absurd (none tt)
none-above NoPoint most none = λ above. above
none-above Bad most none = λ above. above

-- ---- what follows from a claim without a defect

-- a claim has no defect under a cap
abbrev pub HasNoDefect : Program → Capped → Claim → Type 0
HasNoDefect program proof_cap claim = (kind : ℕ) → ¬ ClaimDefect program proof_cap claim kind

-- its plan has none
pub plan-fine : (program : Program) (proof_cap : Capped) (claim : Claim) (plan : ClaimedPlan) → HasNoDefect program proof_cap claim → plan_of claim ≡ Some plan → IsFinePoint program plan.profit plan.point
plan-fine program proof_cap (Optimal profit point) plan none is =
    let same : record { profit = profit; point = point } ≡ plan = cc in
    subst (λ (p : ClaimedPlan). IsFinePoint program p.profit p.point) same (λ kind defect. none kind (inl defect))
plan-fine program proof_cap Infeasible plan none is = absurd (cc)
plan-fine program proof_cap (Between profit most point) plan none is =
    let same : record { profit = profit; point = point } ≡ plan = cc in
    subst (λ (p : ClaimedPlan). IsFinePoint program p.profit p.point) same (λ kind defect. none kind (inl defect))
plan-fine program proof_cap (Below most) plan none is = absurd (cc)

-- a point without a defect is no more above its most
capped-not_above : (program : Program) (proof_cap : Capped) (value most : ℤ) (point : List ℕ) → ((kind : ℕ) → ¬ CappedDefect program proof_cap value most point kind) → IsNotAbove most proof_cap
capped-not_above program proof_cap value most point none above =
    none 13 (inl (inl (
      refl,
      λ (lawful : IsLawful program point).
          none 14 (inl (inr (
            refl,
            lawful,
            λ (worth : worth_of program point ≡ value).
                none 15 (inr (refl, (lawful, worth), above)),
          ))),
    )))

-- its cap is not below the proof's
cap-not_above : (program : Program) (proof_cap : Capped) (claim : Claim) (cap : ℤ) → HasNoDefect program proof_cap claim → cap_of claim ≡ Some cap → IsNotAbove cap proof_cap
cap-not_above program proof_cap (Optimal profit point) cap none is =
    let same : profit ≡ cap = cc in
    subst (λ (n : ℤ). IsNotAbove n proof_cap) same (capped-not_above program proof_cap profit profit point none)
cap-not_above program proof_cap Infeasible cap none is = absurd (cc)
cap-not_above program proof_cap (Between profit most point) cap none is =
    let same : most ≡ cap = cc in
    subst (λ (n : ℤ). IsNotAbove n proof_cap) same (capped-not_above program proof_cap profit most point none)
cap-not_above program proof_cap (Below most) cap none is =
    let same : most ≡ cap = cc in
    subst (λ (n : ℤ). IsNotAbove n proof_cap) same (λ above. none 15 (refl, above))

-- without a cap it allows no point
pub no_cap-none : (program : Program) (proof_cap : Capped) (claim : Claim) → HasNoDefect program proof_cap claim → cap_of claim ≡ None → AllowsNone proof_cap
no_cap-none program proof_cap (Optimal profit point) none is = absurd (cc)
no_cap-none program proof_cap Infeasible none is = λ allows. none 16 (refl, allows)
no_cap-none program proof_cap (Between profit most point) none is = absurd (cc)
no_cap-none program proof_cap (Below most) none is = absurd (cc)

-- where its cap is at most a number, the proof's is not above the number
pub capped-fine : (program : Program) (proof_cap : Capped) (claim : Claim) (most : ℤ) → HasNoDefect program proof_cap claim → IfSome (cap_of claim) (λ cap. cap ≤ℤ most) → IsNotAbove most proof_cap
capped-fine program proof_cap claim most none capped = by (cap_of claim) refl capped
  where
    by : (o : Option ℤ) → cap_of claim ≡ o → IfSome o (λ cap. cap ≤ℤ most) → IsNotAbove most proof_cap
    by None is capped = none-above proof_cap most (no_cap-none program proof_cap claim none is)
    by (Some cap) is capped = above-less proof_cap cap most capped (cap-not_above program proof_cap claim cap none is)

-- ---- the joined claim

-- the place of the best plan
pub best-place : (claims : List Claim) (plan : ClaimedPlan) → IsBestOf claims plan → (place : ℕ) × ((place < length claims) × (plan_of (get_or claims place Infeasible) ≡ Some plan))
best-place claims plan best = (
  length best.before,
  (
    omega (arith, ap length best.are, length-append best.before (best.claim ∷ best.after)),
    ap plan_of (ap (λ (xs : List Claim). get_or xs (length best.before) Infeasible) best.are ∙ seam best.before best.claim best.after) ∙ best.has,
  ),
)

-- the proof's cap is not above the claimed one, or allows no point where none is claimed
abbrev pub IsCappedBy : Option ℤ → Capped → Type 0
IsCappedBy None proof_cap = AllowsNone proof_cap
IsCappedBy (Some cap) proof_cap = IsNotAbove cap proof_cap

-- what a plan without a defect and a cap claim has no defect
pub with-sound : (program : Program) (proof_cap : Capped) (plan : Option ClaimedPlan) (cap : Option ℤ) → IfSome plan (λ p. IsFinePoint program p.profit p.point) → IsCappedBy cap proof_cap → HasNoDefect program proof_cap (claim_with plan cap)
with-sound program proof_cap (Some plan) (Some cap) fine capped =
    by-less plan.profit cap (HasNoDefect program proof_cap) (Between plan.profit cap plan.point) (Optimal plan.profit plan.point)
    (λ less. no_capped program proof_cap plan.profit cap plan.point fine capped)
    (λ least. no_capped program proof_cap plan.profit plan.profit plan.point fine (above-less proof_cap cap plan.profit least capped))
with-sound program proof_cap (Some plan) None fine none = no_capped program proof_cap plan.profit plan.profit plan.point fine (none-above proof_cap plan.profit none)
with-sound program proof_cap None (Some cap) fine capped = λ kind defect. capped defect.1
with-sound program proof_cap None None fine none = λ kind defect. none defect.1
