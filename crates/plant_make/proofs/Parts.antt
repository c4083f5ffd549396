-- Parts of a quantum in lowest terms.
use Rattle.std.proofs.Common.{◌≡◌, ℕ, zero, suc, ◌+◌, ◌*◌, ◌/◌, ◌%◌, ◌<◌, ◌≤◌, true, false, eqb, eq-eqb, inl, inr, sym, ◌∙◌, refl, arith, div-add-mod'}
use Rattle.std.proofs.Math.Nat.{mul-mod_left, mul-div_cancel, mul-le-mul_left, mul-le-mul_right}
use Rattle.std.proofs.lemmas.Bool.{cases_Bool, eqb-true}
use Rattle.stn_model.specs.Sound.{IsPart}
use Rattle.fraction.specs.declared.fraction_of.Fraction.{Fraction}
use Rattle.fraction.specs.Fractions.{IsProper, IsLeast, amount_in, is_whole}
use Rattle.plant_make.specs.Numbers.{least_from, part_of}

-- the search from one denominator on finds the least one that serves
least_found : (amount quantum under more from : ℕ) → (amount * under) % quantum ≡ 0 → ((k : ℕ) → 0 < k → (amount * k) % quantum ≡ 0 → under ≤ k)
    → 0 < from → from ≤ under → under < from + more → least_from amount quantum more from ≡ under
unfolding least_from
least_found amount quantum under zero from whole least some low high = absurd (omega arith)
least_found amount quantum under (suc more) from whole least some low high =
    elim (cases_Bool (eqb ((amount * from) % quantum) 0)) [
      | inl e ↦ let most : under ≤ from = least from some (eqb-true _ _ e) in rw e (omega arith)
      | inr e ↦
          let differ : from ≡ under → true ≡ false = λ same. sym (rw same (eq-eqb _ _ whole)) ∙ e in
          let above : from < under = grind (arith, differ) in
          rw e (least_found amount quantum under more (from + 1) whole least (omega arith) (omega arith) (omega arith))
    ]

-- a fraction of lowest terms is the one that is printed
pub part_is : (amount quantum : ℕ) (f : Fraction) → 1 ≤ quantum → IsProper f → IsLeast amount quantum f → f ≡ part_of quantum amount
unfolding part_of
part_is amount quantum f some is_proper is_least =
    let product : amount * f.under ≡ f.over * quantum = omega (arith, is_least.same) in
    let whole : (amount * f.under) % quantum ≡ 0 = rw product (mul-mod_left f.over quantum) in
    let quotient : (amount * f.under) / quantum ≡ f.over = rw product (mul-div_cancel f.over some) in
    let found : least_from amount quantum 10000 1 ≡ f.under =
    least_found amount quantum f.under 10000 1 whole
    (λ k there none. is_least.least ((amount * k) / quantum) k there (omega (arith, none, div-add-mod' (amount * k) quantum)))
    (omega arith) (omega (arith, is_proper.some, is_proper.most)) (omega (arith, is_proper.small)) in
    rw (found, quotient) refl

-- a part of a quantum is some of it, and at most the whole
pub part_some : (quantum amount : ℕ) → 1 ≤ quantum → IsPart quantum amount → 1 ≤ amount
part_some quantum zero some part =
    let products : quantum * part.0 ≡ 0 = omega (arith, part.1.1.2) in
    let least : quantum * 1 ≤ quantum * part.0 = mul-le-mul_left quantum part.1.1.0.0 in
    absurd (omega arith)
part_some quantum (suc amount) some part = omega arith

pub part_most : (quantum amount : ℕ) → 1 ≤ quantum → IsPart quantum amount → amount ≤ quantum
part_most quantum amount some part =
    let under : ℕ = part.1.0 in
    let same : amount * under ≡ quantum * part.0 = part.1.1.2 in
    let over_some : 1 ≤ part.0 = part.1.1.0.0 in
    let over_most : part.0 ≤ under = part.1.1.0.1 in
    let below : quantum * part.0 ≤ quantum * under = mul-le-mul_left quantum over_most in
    let above : suc quantum ≤ amount → suc quantum * under ≤ amount * under = mul-le-mul_right under in
    grind (arith, above)

-- no denominator is small enough where none is found
pub part_there : (quantum amount : ℕ) → IsPart quantum amount → ((over under : ℕ) → 0 < under → over * quantum ≡ under * amount → 10000 < under) → 1 ≤ quantum → ⊥
part_there quantum amount part none some =
    let over_some : 1 ≤ part.0 = part.1.1.0.0 in
    let over_most : part.0 ≤ part.1.0 = part.1.1.0.1 in
    let small : part.1.0 ≤ 10000 = part.1.1.1.1 in
    let same : part.0 * quantum ≡ part.1.0 * amount = omega (arith, part.1.1.2) in
    let large : 10000 < part.1.0 = none part.0 part.1.0 (omega arith) same in
    omega arith

-- the number serves as a denominator, and is at most another one
record Serves (amount quantum from most under : ℕ) : Type 0 where
  low : from ≤ under
  high : under ≤ most
  whole : (amount * under) % quantum ≡ 0

serves : (amount quantum most more from : ℕ) → (amount * most) % quantum ≡ 0 → from ≤ most → most < from + more → Serves amount quantum from most (least_from amount quantum more from)
unfolding least_from
serves amount quantum most zero from whole low high = absurd (omega arith)
serves amount quantum most (suc more) from whole low high =
    elim (cases_Bool (eqb ((amount * from) % quantum) 0)) [
      | inl e ↦ rw e record { low = omega arith; high = low; whole = eqb-true _ _ e }
      | inr e ↦
          let differ : from ≡ most → true ≡ false = λ same. sym (rw same (eq-eqb _ _ whole)) ∙ e in
          let above : from < most = grind (arith, differ) in
          let rest = serves amount quantum most more (from + 1) whole (omega arith) (omega arith) in
          rw e record { low = omega (arith, rest.low); high = rest.high; whole = rest.whole }
    ]

-- the fraction is the part that the amount is of the quantum
pub record IsPartOf (quantum amount : ℕ) (f : Fraction) : Type 0 where
  pub proper : IsProper f
  pub same : amount * f.under ≡ quantum * f.over

over_some : (amount quantum under over : ℕ) → 1 ≤ amount → 1 ≤ under → amount * under ≡ quantum * over → 1 ≤ over
over_some amount quantum under zero some positive same =
    let least : amount * 1 ≤ amount * under = mul-le-mul_left amount positive in
    absurd (omega arith)
over_some amount quantum under (suc over) some positive same = omega arith

over_most : (amount quantum under over : ℕ) → 1 ≤ quantum → amount ≤ quantum → amount * under ≡ quantum * over → over ≤ under
over_most amount quantum under over some most same =
    let below : amount * under ≤ quantum * under = mul-le-mul_right under most in
    let above : suc under ≤ over → quantum * suc under ≤ quantum * over = mul-le-mul_left quantum in
    grind (arith, above)

-- a part is what its lowest terms say
pub part_good : (quantum amount : ℕ) → 1 ≤ quantum → IsPart quantum amount → IsPartOf quantum amount (part_of quantum amount)
unfolding part_of
part_good quantum amount some part =
    let small : part.1.0 ≤ 10000 = part.1.1.1.1 in
    let there : 1 ≤ part.1.0 = part.1.1.1.0 in
    let product : amount * part.1.0 ≡ part.0 * quantum = omega (arith, part.1.1.2) in
    let whole : (amount * part.1.0) % quantum ≡ 0 = rw product (mul-mod_left part.0 quantum) in
    let found = serves amount quantum part.1.0 10000 1 whole there (omega arith) in
    let under : ℕ = least_from amount quantum 10000 1 in
    let same : amount * under ≡ quantum * ((amount * under) / quantum) = omega (arith, found.whole, div-add-mod' (amount * under) quantum) in
    record {
      proper = record {
        some = over_some amount quantum under _ (part_some quantum amount some part) found.low same;
        most = over_most amount quantum under _ some (part_most quantum amount some part) same;
        small = omega (arith, found.high);
      };
      same = same;
    }

-- the quantum times the part is the amount
pub part_whole : (quantum amount : ℕ) (f : Fraction) → IsPartOf quantum amount f → (is_whole quantum f ≡ true) × (amount_in quantum f ≡ amount)
part_whole quantum amount f is =
    let product : quantum * f.over ≡ amount * f.under = sym is.same in
    let positive : 0 < f.under = omega (arith, is.proper.some, is.proper.most) in (
      rw (product, mul-mod_left amount f.under) refl,
      rw product (mul-div_cancel amount positive),
    )
