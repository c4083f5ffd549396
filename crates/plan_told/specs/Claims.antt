-- Claims over a program with sums.
use Rattle.std.specs.Prelude.{ℕ, ◌≤◌, ⊤, List, length}
use Rattle.std.specs.List.{All}
use Rattle.proof_log.specs.declared.claim.Claim.{Claim}
use Rattle.proof_log.specs.declared.claim.Claim.TheVariants as claim
use Rattle.sum_slots.specs.declared.sum.Sum.{Sum}
use Rattle.sum_slots.specs.Sum.{IsByte, IsDeclared, sum_value}

-- where a claim names a point
abbrev pub IfPoint : Claim → (List ℕ → Type 0) → Type 0
IfPoint (claim.Optimal profit point) P = P point
IfPoint claim.Infeasible P = ⊤
IfPoint (claim.Between profit most point) P = P point
IfPoint (claim.Below most) P = ⊤

-- sums have values at a point that are bytes: they are declared over its slots, of which there are at most 4,096
pub record HaveBytes (sums : List Sum) (point : List ℕ) : Type 0 where
  pub few : length point ≤ 4096
  pub declared : All (IsDeclared (length point)) sums
  pub bytes : All (λ sum. IsByte (sum_value sum point)) sums
