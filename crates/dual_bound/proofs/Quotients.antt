-- The greatest whole number that is not above a quotient, and caps by it.
use Rattle.std.proofs.Common.{◌≡◌, ℕ, suc, ◌+◌, ◌*◌, ◌/◌, ◌<◌, Bool, true, false, ◌&&◌, cond, eqb, leb, List, length, refl, ap, subst, arith, Some, None, ℤ, pos, negsuc, neg_ℤ, ◌+ℤ◌, ◌*ℤ◌, ◌≤ℤ◌, ◌<ℤ◌}
use Rattle.std.specs.Prelude.{int_lt}
use Rattle.std.specs.Int.{int_div_euclid}
use Rattle.std.proofs.lemmas.Bool.{and_parts}
use Rattle.std.proofs.lemmas.Bool.Decides.{nat_tests}
use Rattle.std.proofs.lemmas.Int.{ints}
use Rattle.std.proofs.Math.IntN.{pos-*ℤ-pos}
use Rattle.std.proofs.Math.Nat.{mul-div-le, div-lt_iff_lt-mul, mul_comm}
use Rattle.row_kit.specs.declared.domain.Domain.{Domain}
use Rattle.row_kit.specs.declared.program.Program.{Program}
use Rattle.proof_tree.specs.declared.capped.Capped.TheVariants.{AtMost, NoPoint, Bad}
use Rattle.dual_bound.specs.declared.cert.Cert.{Cert}
use Rattle.dual_bound.specs.Cap.{CapHolds, IsFloor, cert_cap, scaled_cap}
use Rattle.dual_bound.specs.Total.{are_fit, has_total, is_fit, total_of}
use Rattle.dual_bound.proofs.Caps.{cap_holds}
use Rattle.dual_bound.proofs.Exchange.{duality}
use Rattle.dual_bound.proofs.Fit.{fit_all}
use Rattle.dual_bound.proofs.Signed.{mul_neg}

-- a number is below the divisor times one more than the quotient
below_next : (a n : ℕ) → 0 < n → a < n * (a / n + 1)
below_next a n some = subst (λ (m : ℕ). a < m) (mul_comm (a / n + 1) n) ((div-lt_iff_lt-mul {k = n} {x = a} {y = a / n + 1} some).0 (omega arith))

floor_below : (n : ℕ) (t : ℤ) → 0 < n → (pos n *ℤ int_div_euclid t (pos n)) ≤ℤ t
floor_below n (pos a) some = omega (arith, ints, pos-*ℤ-pos n (a / n), mul-div-le a n)
floor_below n (negsuc a) some = omega (arith, ints, mul_neg n (pos (suc (a / n))), pos-*ℤ-pos n (suc (a / n)), below_next a n some)

floor_above : (n : ℕ) (t : ℤ) → 0 < n → t <ℤ (pos n *ℤ (int_div_euclid t (pos n) +ℤ pos 1))
floor_above n (pos a) some = omega (arith, ints, pos-*ℤ-pos n (a / n + 1), below_next a n some)
floor_above n (negsuc a) some =
    let less : negsuc (a / n) +ℤ pos 1 ≡ neg_ℤ (pos (a / n)) = omega (arith, ints) in
    omega (arith, ints, ap (λ (x : ℤ). pos n *ℤ x) less, mul_neg n (pos (a / n)), pos-*ℤ-pos n (a / n), mul-div-le a n)

positive : (n : ℕ) → eqb n 0 ≡ false → 0 < n
positive n e = grind (arith, nat_tests)

scaled_floor : (n : ℕ) (t : ℤ) → IsFloor n (Some t) (scaled_cap n (Some t))
scaled_floor n t = by_scale (eqb n 0) refl
  where
    by_sign : (l : Bool) → IsFloor n (Some t) (cond l NoPoint Bad)
    by_sign true = tt
    by_sign false = tt

    by_scale : (z : Bool) → eqb n 0 ≡ z → IsFloor n (Some t) (cond z (cond (int_lt t (pos 0)) NoPoint Bad) (AtMost (int_div_euclid t (pos n))))
    by_scale true e = by_sign (int_lt t (pos 0))
    by_scale false e = (floor_below n t (positive n e), floor_above n t (positive n e))

-- the cap of a certificate holds over whatever domains
pub cert_cap-holds : (program : Program) (ds : List Domain) (cert : Cert) → CapHolds program ds (cert_cap program ds cert)
cert_cap-holds program ds cert = by_total (has_total program ds cert) refl
  where
    by_total : (b : Bool) → has_total program ds cert ≡ b → CapHolds program ds (scaled_cap cert.scale (cond b (Some (total_of program ds cert)) None))
    by_total false e = tt
    by_total true e =
        let t = total_of program ds cert in
        let fit = (and_parts (leb cert.scale 1048576 && leb (length cert.mults) 50000) (are_fit (length program.rows) 0 cert.mults) (and_parts (is_fit (length program.rows) cert) _ e).0).1 in
        let there = fit_all (length program.rows) 0 cert.mults fit in
        cap_holds program ds cert.scale t (scaled_cap cert.scale (Some t)) refl (scaled_floor cert.scale t) (duality program ds cert (λ k d h. (there k d h).row))
