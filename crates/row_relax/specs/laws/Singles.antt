-- Stands in specs/ since the law that `Rows` keeps stands on it; no public clause cites it.
-- Domains with exactly one value each have one point.
use Rattle.std.proofs.Common.{◌≡◌, ℕ, zero, suc, ◌+◌, ◌-◌, ◌<◌, ◌≤◌, Bool, true, false, ◌&&◌, cond, eqb, List, [], ◌∷◌, length, get_or, set, refl, sym, ap, ◌∙◌, subst, ⊎_elim, arith}
use Rattle.std.specs.List.{All}
use Rattle.std.proofs.lemmas.Bool.{cases_eq, eq-eqb, eqb-true, false≢true}
use Rattle.std.proofs.lemmas.List.{get_or-map, get_or-set_other, get_or-set_same, length-map, length-set, same_lists, get_or_default}
use Rattle.std.proofs.lemmas.List.Sums.{AllPass-from_list_all}
use Rattle.row_kit.specs.declared.domain.Domain.{Domain}
use Rattle.row_kit.specs.Domain.{Holds, IsNormal, count_of, domain_at, no_values}
use Rattle.row_kit.specs.Point.{LiesIn}
use Rattle.row_relax.specs.Settle.{are_single, only_point, only_value}

-- a domain with one value holds that one
one_held : (z : Bool) (l h : ℕ) → 1 ≤ l → cond z 1 0 + (h + 1 - l) ≡ 1 → Holds (record { zero = z; lo = l; hi = h }) (cond z 0 l)
one_held true l h low one = record { at_zero = λ _. refl; above_zero = λ p. absurd (omega arith) }
one_held false l h low one = record { at_zero = λ e. absurd (omega arith); above_zero = λ _. (omega arith, omega arith) }

one_only : (z : Bool) (l h v : ℕ) → 1 ≤ l → cond z 1 0 + (h + 1 - l) ≡ 1 → Holds (record { zero = z; lo = l; hi = h }) v → v ≡ cond z 0 l
one_only true l h zero low one held = refl
one_only true l h (suc v) low one held = let p : 0 < suc v = omega arith in absurd (omega (arith, one, (held.above_zero p).0, (held.above_zero p).1))
one_only false l h zero low one held = absurd (false≢true (held.at_zero refl))
one_only false l h (suc v) low one held = let p : 0 < suc v = omega arith in omega (arith, one, (held.above_zero p).0, (held.above_zero p).1)

single_at : (ds : List Domain) → are_single ds ≡ true → (k : ℕ) → k < length ds → count_of (domain_at ds k) ≡ 1
single_at ds single k lt = eqb-true (count_of (domain_at ds k)) 1 (AllPass-from_list_all (λ (d : Domain). eqb (count_of d) 1) ds single k no_values lt)

at_only : (ds : List Domain) (k : ℕ) → k < length ds → get_or (only_point ds) k 0 ≡ only_value (domain_at ds k)
at_only ds k lt = get_or-map only_value ds k no_values 0 lt

-- single domains have one point, and no other
pub single_point : (ds : List Domain) → All IsNormal ds → are_single ds ≡ true → LiesIn ds (only_point ds) × ((point : List ℕ) → LiesIn ds point → point ≡ only_point ds)
single_point ds normal' single = (
  record {
    same_length = length-map ds only_value;
    held = λ k lt. let d = domain_at ds k in subst (Holds d) (sym (at_only ds k lt)) (one_held d.zero d.lo d.hi (normal' k no_values lt).positive (single_at ds single k lt));
  },
  λ q lies. same_lists q (only_point ds) (lies.same_length ∙ sym (length-map ds only_value)) (λ k e lt.
      let in' : k < length ds = omega (arith, lt, lies.same_length) in
      let d = domain_at ds k in
      get_or_default q k e 0 lt ∙ one_only d.zero d.lo d.hi (get_or q k 0) (normal' k no_values in').positive (single_at ds single k in') (lies.held k in') ∙ sym (at_only ds k in')
      ∙ get_or_default (only_point ds) k 0 e (omega (arith, in', length-map ds only_value))),
)
