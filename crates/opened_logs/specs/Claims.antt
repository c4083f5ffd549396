-- What a claim comes to, in numbers.
use Rattle.std.specs.Prelude.{⊤, ℤ, ◌≤ℤ◌, Option, Some, None, IfSome}
use Rattle.std.specs.Option.{IsSomeAnd}
use Rattle.proof_log.specs.declared.claim.Claim.{Claim}
use Rattle.proof_log.specs.declared.claim.Claim.TheVariants.{Optimal, Infeasible, Between, Below}

-- the profit of a claim's plan, if it has one
abbrev pub profit_of : Claim → Option ℤ
profit_of (Optimal profit point) = Some profit
profit_of Infeasible = None
profit_of (Between profit most point) = Some profit
profit_of (Below most) = None

-- the number above which a claim says that no plan earns, if it allows any
abbrev pub cap_of : Claim → Option ℤ
cap_of (Optimal profit point) = Some profit
cap_of Infeasible = None
cap_of (Between profit most point) = Some most
cap_of (Below most) = Some most

-- a profit is at least another; where there is no other it may be none
abbrev pub IsNoLess : Option ℤ → Option ℤ → Type 0
IsNoLess old new = IfSome old (λ least. IsSomeAnd new (λ profit. least ≤ℤ profit))

-- a cap is at most another; where there is no other there is none
abbrev pub IsNoMore : Option ℤ → Option ℤ → Type 0
IsNoMore old new = IfSome new (λ cap. IsSomeAnd old (λ most. cap ≤ℤ most))

-- a claim leaves something open
abbrev pub IsOpenClaim : Claim → Type 0
IsOpenClaim (Optimal profit point) = ⊥
IsOpenClaim Infeasible = ⊥
IsOpenClaim (Between profit most point) = ⊤
IsOpenClaim (Below most) = ⊤
