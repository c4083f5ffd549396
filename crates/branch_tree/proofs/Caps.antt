-- Caps that say more, and certificates that were polished.
use Rattle.std.proofs.Common.{◌≡◌, ◌≢◌, ℕ, ◌/◌, ◌≤◌, ◌<◌, Bool, true, false, cond, eqb, List, length, Option, Some, None, refl, sym, ap, subst, arith, inl, inr}
use Rattle.std.specs.Prelude.{ℤ, pos, negsuc, ◌≤ℤ◌, ◌<ℤ◌, int_lt, IsSome, ◌⊎◌, nat_lt}
use Rattle.std.specs.Int.{int_div_euclid}
use Rattle.std.specs.List.{list_all}
use Rattle.std.proofs.Math.Nat.{div-mul-le_self, le-div_iff_mul-le}
use Rattle.std.proofs.lemmas.Bool.{and_parts}
use Rattle.std.proofs.lemmas.Bool.Decides.{nat_tests}
use Rattle.std.proofs.lemmas.Int.{ints}
use Rattle.row_kit.specs.declared.domain.Domain.{Domain}
use Rattle.row_kit.specs.declared.program.Program.{Program}
use Rattle.row_kit.specs.Domain.{count_of}
use Rattle.dual_bound.specs.declared.cert.Cert.{Cert}
use Rattle.dual_bound.specs.Cap.{cert_cap, scaled_cap}
use Rattle.dual_bound.specs.Total.{has_total, is_fit, total_at, total_of}
use Rattle.dual_climb.specs.Polished.{IsReached, NeverRises}
use Rattle.dual_climb.specs.RowBest.{RowBest}
use Rattle.dual_bound.specs.Plain.{plain_cert, IsNotAbove}
use Rattle.proof_tree.specs.declared.capped.Capped.{Capped}
use Rattle.proof_tree.specs.declared.capped.Capped.TheVariants.{AtMost, NoPoint, Bad}
use Rattle.branch_tree.specs.Justified.{IsPolished}
use Rattle.branch_tree.specs.Compared.{is_over}
use Rattle.branch_tree.specs.laws.Ends.{says_more}

-- a cap that says more than one is within what that is within
pub says_more-within : (cap other most : Capped) → says_more cap other ≡ true → IsNotAbove other most → IsNotAbove cap most
says_more-within NoPoint other most more within = tt
says_more-within Bad other most more within = cc
says_more-within (AtMost n) NoPoint most more within = cc
says_more-within (AtMost n) Bad most more within = cc
says_more-within (AtMost n) (AtMost m) (AtMost k) more within = let less : n <ℤ m = grind (arith, ints) in omega (arith, ints, less)
says_more-within (AtMost n) (AtMost m) NoPoint more within = absurd within
says_more-within (AtMost n) (AtMost m) Bad more within = absurd within

-- what is within something is no bad cap
pub within-not_bad : (most cap : Capped) → IsNotAbove cap most → cap ≢ Bad
within-not_bad (AtMost m) cap within bad = subst (λ c. IsNotAbove c (AtMost m)) bad within
within-not_bad NoPoint cap within bad = subst (λ c. IsNotAbove c NoPoint) bad within
within-not_bad Bad cap within bad = subst (λ c. IsNotAbove c Bad) bad within

-- neither is what is not over the best
pub not_over-not_bad : (cap : Capped) (best : Option ℤ) → is_over cap best ≡ false → cap ≢ Bad
not_over-not_bad cap best over bad = apart (is_over cap best) over (ap (λ c. is_over c best) bad)
  where
    apart : (b : Bool) → b ≡ false → b ≡ true → ⊥
    apart b is_false is_true = cc

-- a cap that is no bad one has a total
pub cap-total : (scale : ℕ) (o : Option ℤ) → scaled_cap scale o ≢ Bad → IsSome o
cap-total scale None some = absurd (some refl)
cap-total scale (Some t) some = refl

-- a certificate that has a total is fit
pub total-fit : (program : Program) (ds : List Domain) (cert : Cert) → IsSome (total_at program ds cert) → is_fit (length program.rows) cert ≡ true
total-fit program ds cert some = at (has_total program ds cert) refl some
  where
    at : (b : Bool) → has_total program ds cert ≡ b → IsSome (cond b (Some (total_of program ds cert)) None) → is_fit (length program.rows) cert ≡ true
    at true is some' = (and_parts (is_fit (length program.rows) cert) (list_all (λ (d : Domain). nat_lt 0 (count_of d)) ds) is).0
    at false is some' = cc

div_le : (a b n : ℕ) → 0 < n → a ≤ b → a / n ≤ b / n
div_le a b n some low = (le-div_iff_mul-le {k = n} {x = a / n} {y = b} some).1 (omega (arith, div-mul-le_self a n, low))

-- a lesser number has no greater quotient
quotient_le : (n : ℕ) (t u : ℤ) → 0 < n → u ≤ℤ t → int_div_euclid u (pos n) ≤ℤ int_div_euclid t (pos n)
quotient_le n (pos b) (pos a) some low = let q = div_le a b n some (omega (arith, ints, low)) in omega (arith, ints, q)
quotient_le n (pos b) (negsuc a) some low = omega (arith, ints)
quotient_le n (negsuc b) (pos a) some low = absurd (omega (arith, ints, low))
quotient_le n (negsuc b) (negsuc a) some low = let q = div_le b a n some (omega (arith, ints, low)) in omega (arith, ints, q)

-- a certificate whose cap is within something and over the best has a scale of 1 or more
over-scale : (scale : ℕ) (o : Option ℤ) (most : Capped) (best : Option ℤ) → IsNotAbove (scaled_cap scale o) most → is_over (scaled_cap scale o) best ≡ true → 1 ≤ scale
over-scale scale None most best within over = absurd (within-not_bad most Bad within refl)
over-scale scale (Some t) most best within over = at (eqb scale 0) refl (int_lt t (pos 0)) within over
  where
    at : (z : Bool) → eqb scale 0 ≡ z → (l : Bool) → IsNotAbove (cond z (cond l NoPoint Bad) (AtMost (int_div_euclid t (pos scale)))) most → is_over (cond z (cond l NoPoint Bad) (AtMost (int_div_euclid t (pos scale)))) best ≡ true → 1 ≤ scale
    at true e true within' over' = cc
    at true e false within' over' = absurd (within-not_bad most Bad within' refl)
    at false e l within' over' = grind (arith, nat_tests)

-- a total that does not rise gives a cap that does not
never-within : (scale : ℕ) (o p : Option ℤ) (most : Capped) → 1 ≤ scale → NeverRises o p → IsNotAbove (scaled_cap scale o) most → IsNotAbove (scaled_cap scale p) most
never-within scale None p most some never within = absurd never
never-within scale (Some t) None most some never within = absurd never
never-within scale (Some t) (Some u) most some never within = at (eqb scale 0) refl most within
  where
    at : (z : Bool) → eqb scale 0 ≡ z → (m : Capped) → IsNotAbove (cond z (cond (int_lt t (pos 0)) NoPoint Bad) (AtMost (int_div_euclid t (pos scale)))) m → IsNotAbove (cond z (cond (int_lt u (pos 0)) NoPoint Bad) (AtMost (int_div_euclid u (pos scale)))) m
    at true e m within' = absurd (grind (arith, nat_tests))
    at false e (AtMost m) within' = let q = quotient_le scale t u (omega arith) never in omega (arith, ints, q, within')
    at false e NoPoint within' = absurd within'
    at false e Bad within' = absurd within'

never-some : (o p : Option ℤ) → NeverRises o p → IsSome p
never-some None p never = absurd never
never-some (Some t) None never = absurd never
never-some (Some t) (Some u) never = refl

reached-not_over : (cap : Capped) (best : Option ℤ) → IsReached best cap → is_over cap best ≡ true → ⊥
reached-not_over (AtMost n) (Some stop) reached over = let less : stop <ℤ n = grind (arith, ints) in omega (arith, ints, less, reached)
reached-not_over (AtMost n) None reached over = reached
reached-not_over NoPoint best reached over = cc
reached-not_over Bad None reached over = reached
reached-not_over Bad (Some stop) reached over = reached

-- a certificate that was polished until it was row-wise best
pub polished : (program : Program) (ds : List Domain) (old new : Cert) (best : Option ℤ)
    → IsNotAbove (cert_cap program ds old) (cert_cap program ds plain_cert) → is_over (cert_cap program ds old) best ≡ true
    → new.scale ≡ old.scale → NeverRises (total_at program ds old) (total_at program ds new)
    → RowBest program ds new ⊎ IsReached best (cert_cap program ds new) → is_over (cert_cap program ds new) best ≡ true
    → IsPolished program ds new
polished program ds old new best within over same never ended still =
    let scale : 1 ≤ old.scale = over-scale old.scale (total_at program ds old) (cert_cap program ds plain_cert) best within over in
    let lower : IsNotAbove (scaled_cap old.scale (total_at program ds new)) (cert_cap program ds plain_cert) = never-within old.scale (total_at program ds old) (total_at program ds new) (cert_cap program ds plain_cert) scale never within in
    record {
      scale = subst (λ n. 1 ≤ n) (sym same) scale;
      total = never-some (total_at program ds old) (total_at program ds new) never;
      row_best = elim ended [ inl row_best ↦ row_best | inr reached ↦ absurd (reached-not_over (cert_cap program ds new) best reached still) ];
      no_higher = subst (λ n. IsNotAbove (scaled_cap n (total_at program ds new)) (cert_cap program ds plain_cert)) (sym same) lower;
    }
