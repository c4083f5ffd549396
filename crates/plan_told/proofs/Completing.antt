-- At a lawful point the sums have values that are bytes.
use Rattle.std.proofs.Common.{ℕ, List, sym, subst, arith}
use Rattle.std.specs.List.{All}
use Rattle.stn_model.specs.declared.plant.Plant.{Plant}
use Rattle.row_kit.specs.declared.domain.Domain.{Domain}
use Rattle.row_kit.specs.declared.program.Program.{Program}
use Rattle.row_kit.specs.Point.{IsLawful}
use Rattle.row_relax.specs.declared.rows.Rows.{Rows}
use Rattle.proof_log.specs.declared.claim.Claim.{Claim}
use Rattle.proof_log.specs.declared.claim.Claim.TheVariants.{Optimal, Infeasible, Between, Below}
use Rattle.sum_slots.specs.declared.sum.Sum.{Sum}
use Rattle.sum_slots.specs.Shown.{AreRanges}
use Rattle.sum_slots.specs.Sum.{IsDeclared}
use Rattle.sum_slots.proofs.Ranges.{value_byte}
use Rattle.derivations.specs.declared.derivation.Derivation.{Derivation}
use Rattle.plan_told.specs.Claims.{HaveBytes, IfPoint}
use Rattle.plan_told.specs.Heads.{CanHead}

module _ (plant : Plant) (part : Program) (rows : Rows) (judged : List Domain) (sums : List Sum) (units : List ℕ) (derivations : List Derivation) (wide : AreRanges part judged) (can : CanHead plant part judged sums units derivations rows) where
  -- at a lawful point
  have_bytes : (point : List ℕ) → IsLawful part point → HaveBytes sums point
  have_bytes point lawful = record {
    few = omega (arith, lawful.lies.same_length, part.few_slots);
    declared = subst (λ (n : ℕ). All (IsDeclared n) sums) (sym lawful.lies.same_length) can.sums_kept.declared;
    bytes = λ k d lt. value_byte part judged _ point wide (can.sums_kept.declared k d lt) (can.enlarged.sums_shown k d lt) lawful;
  }

  -- at the point of a claim, where it is lawful
  pub claim-bytes : (claim : Claim) → IfPoint claim (IsLawful part) → IfPoint claim (HaveBytes sums)
  claim-bytes (Optimal profit point) lawful = have_bytes point lawful
  claim-bytes Infeasible lawful = tt
  claim-bytes (Between profit most point) lawful = have_bytes point lawful
  claim-bytes (Below most) lawful = tt
