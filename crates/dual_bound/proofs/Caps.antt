-- A cap holds of the points where the total bounds scale times their values.
use Rattle.std.proofs.Common.{◌≡◌, ℕ, Bool, true, false, cond, eqb, List, Some, refl, sym, ap, ◌∙◌, subst, arith, ℤ, pos, ◌+ℤ◌, ◌*ℤ◌, ◌≤ℤ◌, ◌<ℤ◌}
use Rattle.std.specs.Int.RustNames.{int_lt}
use Rattle.std.specs.Int.{int_div_euclid}
use Rattle.std.proofs.lemmas.Bool.{eqb-true}
use Rattle.std.proofs.lemmas.Int.{ints, by_lt_z}
use Rattle.std.proofs.Math.IntN.{zero-*ℤ}
use Rattle.proof_tree.specs.declared.capped.Capped.{Capped}
use Rattle.proof_tree.specs.declared.capped.Capped.TheVariants.{AtMost, NoPoint, Bad}
use Rattle.row_kit.specs.declared.domain.Domain.{Domain}
use Rattle.row_kit.specs.declared.program.Program.{Program}
use Rattle.row_kit.specs.Point.{value_of}
use Rattle.dual_bound.specs.Cap.{scaled_cap, IsFloor, CapHolds}
use Rattle.dual_bound.specs.Total.{BoundsScaled}
use Rattle.dual_bound.proofs.Signed.{mul_le}

no_point_means : (z l : Bool) (n : ℤ) → NoPoint ≡ cond z (cond l NoPoint Bad) (AtMost n) → (z ≡ true) × (l ≡ true)
no_point_means true true n e = (refl, refl)
no_point_means true false n e = absurd (cc)
no_point_means false l n e = absurd (cc)

above : (v n : ℤ) → n <ℤ v → (n +ℤ pos 1) ≤ℤ v
above v n h = omega (arith, ints)

clash : (a t b : ℤ) → a ≤ℤ t → t <ℤ b → b ≤ℤ a → ⊥
clash a t b h k l = omega (arith, ints)

below : (scale : ℕ) (v n t : ℤ) → (pos scale *ℤ v) ≤ℤ t → t <ℤ (pos scale *ℤ (n +ℤ pos 1)) → v ≤ℤ n
below scale v n t h k =
    by_lt_z n v (λ (more : n <ℤ v). absurd (clash (pos scale *ℤ v) t (pos scale *ℤ (n +ℤ pos 1)) h k (mul_le scale (n +ℤ pos 1) v (above v n more)))) (λ (le : v ≤ℤ n). le)

negative : (t : ℤ) → int_lt t (pos 0) ≡ true → t <ℤ pos 0
negative t e = grind (arith, ints)

nothing_below : (scale : ℕ) (v t : ℤ) → scale ≡ 0 → (pos scale *ℤ v) ≤ℤ t → t <ℤ pos 0 → ⊥
nothing_below scale v t e h k =
    let zero' : pos scale *ℤ v ≡ pos 0 = ap (λ (n : ℕ). pos n *ℤ v) e ∙ zero-*ℤ v in
    clash (pos scale *ℤ v) t (pos 0) h k (subst (λ (x : ℤ). pos 0 ≤ℤ x) (sym zero') (omega (arith, ints)))

pub cap_holds : (program : Program) (ds : List Domain) (scale : ℕ) (t : ℤ) (cap : Capped) → cap ≡ scaled_cap scale (Some t) → IsFloor scale (Some t) cap → BoundsScaled program ds scale t → CapHolds program ds cap
cap_holds program ds scale t (AtMost n) e floor bounds = λ p lies kept. below scale (value_of program p) n t (bounds p lies kept) floor.1
cap_holds program ds scale t NoPoint e floor bounds = λ p lies kept.
    let means = no_point_means (eqb scale 0) (int_lt t (pos 0)) (int_div_euclid t (pos scale)) e in
    nothing_below scale (value_of program p) t (eqb-true scale 0 means.0) (bounds p lies kept) (negative t means.1)
cap_holds program ds scale t Bad e floor bounds = tt
