-- A claim whose numbers have at most 30 digits.
use Rattle.std.specs.Prelude.{⊤}
use Rattle.log_lines.specs.Line.{IsShort}
use Rattle.proof_log.specs.declared.claim.Claim.{Claim}
use Rattle.proof_log.specs.declared.claim.Claim.TheVariants.{Optimal, Infeasible, Between, Below}

-- the cap that a claim names has at most 30 digits
abbrev pub IsSmallClaim : Claim → Type 0
IsSmallClaim (Optimal profit point) = ⊤
IsSmallClaim Infeasible = ⊤
IsSmallClaim (Between profit most point) = IsShort most
IsSmallClaim (Below most) = IsShort most
