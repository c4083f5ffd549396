-- The claim of a log over a program with declared sums.
use Rattle.std.specs.Prelude.{List}
use Rattle.sum_slots.specs.declared.sum.Sum.{Sum}
use Rattle.sum_slots.specs.Larger.{completed}
use Rattle.proof_log.specs.declared.claim.Claim.{Claim}
use Rattle.proof_log.specs.declared.claim.Claim.TheVariants.{Optimal, Infeasible, Between, Below}

-- a claim over a program with sums: its point followed by the values of the sums there
abbrev pub larger_claim : List Sum → Claim → Claim
larger_claim sums (Optimal profit point) = Optimal profit (completed sums point)
larger_claim sums Infeasible = Infeasible
larger_claim sums (Between profit most point) = Between profit most (completed sums point)
larger_claim sums (Below most) = Below most
