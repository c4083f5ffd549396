-- What the claims of a plant's parts come to.
use Rattle.std.specs.Prelude.{◌≡◌, ℕ, ℤ, ◌<◌, ◌≤ℤ◌, ◌<ℤ◌, int_lt, if◌then◌else◌, Option, Some, None, IfSome, List, ◌∷◌, ◌++◌, length, slice_index_or}
use Rattle.std.specs.List.{All}
use Rattle.stn_model.specs.declared.plant.Plant.{Plant}
use Rattle.proof_log.specs.declared.claim.Claim.{Claim}
use Rattle.proof_log.specs.declared.claim.Claim.TheVariants.{Optimal, Infeasible, Between, Below}
use Rattle.valid_log.specs.Claims.{SaysOf}
use Rattle.log_parts.specs.declared.joining.ClaimedPlan.{ClaimedPlan}
use Rattle.plant_parts.specs.PlantParts.{IsOfPart}

-- the plan of a claim: its profit, and its values
abbrev pub plan_of : Claim → Option ClaimedPlan
plan_of (Optimal profit point) = Some (record { profit = profit; point = point })
plan_of Infeasible = None
plan_of (Between profit most point) = Some (record { profit = profit; point = point })
plan_of (Below most) = None

-- the cap of a claim, above which no plan earns
abbrev pub cap_of : Claim → Option ℤ
cap_of (Optimal profit point) = Some profit
cap_of Infeasible = None
cap_of (Between profit most point) = Some most
cap_of (Below most) = Some most

-- a claim's plan, where it has one, has a profit of at most this
abbrev pub EarnsAtMost : ℤ → Claim → Type 0
EarnsAtMost most claim = IfSome (plan_of claim) (λ plan. plan.profit ≤ℤ most)

-- a claim's plan, where it has one, has a profit below this
abbrev pub ProfitBelow : ℤ → Claim → Type 0
ProfitBelow profit claim = IfSome (plan_of claim) (λ plan. plan.profit <ℤ profit)

-- a claim's cap, where it has one, is at most this
abbrev pub IsCapped : ℤ → Claim → Type 0
IsCapped most claim = IfSome (cap_of claim) (λ cap. cap ≤ℤ most)

-- the plan of greatest profit among those of the claims, the first of equals
pub record IsBestOf (claims : List Claim) (plan : ClaimedPlan) : Type 0 where
  pub before : List Claim
  pub claim : Claim
  pub after : List Claim
  pub are : claims ≡ before ++ claim ∷ after
  pub has : plan_of claim ≡ Some plan
  pub more : All (ProfitBelow plan.profit) before
  pub no_less : All (EarnsAtMost plan.profit) after

-- the greatest of the claims' caps
pub record IsGreatestCap (claims : List Claim) (cap : ℤ) : Type 0 where
  pub place : ℕ
  pub within : place < length claims
  pub has : cap_of (slice_index_or claims place Infeasible) ≡ Some cap
  pub most : All (IsCapped cap) claims

-- the plan of greatest profit, or none where no claim has a plan
abbrev pub IsBestPlan : List Claim → Option ClaimedPlan → Type 0
IsBestPlan claims (Some plan) = IsBestOf claims plan
IsBestPlan claims None = All (λ claim. plan_of claim ≡ None) claims

-- the greatest cap, or none where no claim has a cap
abbrev pub IsBestCap : List Claim → Option ℤ → Type 0
IsBestCap claims (Some cap) = IsGreatestCap claims cap
IsBestCap claims None = All (λ claim. cap_of claim ≡ None) claims

-- what a plan and a cap claim: that the plan is best where no plan earns more than it, and else both, or what there is of them
abbrev pub claim_with : Option ClaimedPlan → Option ℤ → Claim
claim_with (Some plan) (Some cap) = if int_lt plan.profit cap then Between plan.profit cap plan.point else Optimal plan.profit plan.point
claim_with (Some plan) None = Optimal plan.profit plan.point
claim_with None (Some cap) = Below cap
claim_with None None = Infeasible

-- the joined claim is made of the plan of greatest profit and of the greatest cap
pub record IsJoined (claims : List Claim) (claim : Claim) : Type 0 where
  pub plan : Option ClaimedPlan
  pub cap : Option ℤ
  pub best_plan : IsBestPlan claims plan
  pub best_cap : IsBestCap claims cap
  pub is : claim ≡ claim_with plan cap

-- each claim says what it says of the plans of its part
abbrev pub EachSays : Plant → ℕ → List Claim → Type 0
EachSays plant levels claims = (part : ℕ) → part < length claims → SaysOf plant (IsOfPart plant levels part) (slice_index_or claims part Infeasible)

-- the second where it has the greater profit or is the only one, and else the first
abbrev pub better : Option ClaimedPlan → Option ClaimedPlan → Option ClaimedPlan
better None second = second
better (Some a) None = Some a
better (Some a) (Some b) = if int_lt a.profit b.profit then Some b else Some a

-- the greater of two caps, or the only one
abbrev pub greater : Option ℤ → Option ℤ → Option ℤ
greater None second = second
greater (Some a) None = Some a
greater (Some a) (Some b) = if int_lt a b then Some b else Some a
