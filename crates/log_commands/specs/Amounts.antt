-- The amounts of claims.
use Rattle.proof_log.specs.declared.claim.Claim.{Claim}
use Rattle.proof_log.specs.declared.claim.Claim.TheVariants.{Optimal, Infeasible, Between, Below}
use Rattle.answer_texts.specs.Planning.{IsMoney}

-- a claim's profit and cap have at most 128 bits
abbrev pub IsClaimInMoney : Claim → Type 0
IsClaimInMoney (Optimal earned point) = IsMoney earned
IsClaimInMoney Infeasible = Unit {0}
IsClaimInMoney (Between earned most point) = IsMoney earned × IsMoney most
IsClaimInMoney (Below most) = IsMoney most
