-- What an entry counts at most over a domain is the greatest that it counts at a value of the domain.
use Rattle.std.proofs.Common.{◌≡◌, ℕ, zero, suc, ◌+◌, ◌-◌, ◌<◌, ◌≤◌, Bool, true, false, cond, ltb, [], ◌∷◌, ◌++◌, length, refl, sym, ap, ap₂, get_or, ◌∙◌, arith, ◌⊎◌, inl, inr, ℤ, pos, ◌≤ℤ◌}
use Rattle.std.specs.Int.{int_max}
use Rattle.std.specs.List.{range_with_len}
use Rattle.std.proofs.lemmas.Bool.{cases_cond, ltb-true, ltb-false}
use Rattle.std.proofs.lemmas.Int.{ints}
use Rattle.std.proofs.lemmas.List.Elements.{All-cons, All-nil}
use Rattle.row_kit.specs.declared.domain.Domain.{Domain}
use Rattle.row_kit.specs.declared.row.Entry.{Entry}
use Rattle.row_kit.specs.Domain.{Holds, IsNormal, domain_at, values_of}
use Rattle.row_kit.specs.Point.{LiesIn}
use Rattle.row_kit.specs.Row.{counted}
use Rattle.row_kit.proofs.Domains.{Holds-from_values, values-from_Holds}
use Rattle.row_kit.proofs.Values.{in_range}
use Rattle.dual_bound.specs.Total.{greatest}
use Rattle.dual_bound.proofs.Greatest.{greatest_is}
use Rattle.sum_slots.specs.Shown.{greater_end, greatest_counted}
use Rattle.sum_slots.proofs.EntrySums.{sum-le-greatest}

-- a value lies in its domain, as a point of one slot
one_slot : (d : Domain) (v : ℕ) → Holds d v → LiesIn (d ∷ []) (v ∷ [])
one_slot d v held = record { same_length = refl; held = at }
  where
    at : (k : ℕ) → k < length (d ∷ []) → Holds (domain_at (d ∷ []) k) (get_or (v ∷ []) k 0)
    at zero less = held
    at (suc k) less = absurd (omega (arith, less))

-- an entry counts at each value of a domain at most what is shown
at_most : (e : Entry) (d : Domain) (v : ℕ) → 1 ≤ d.lo → Holds d v → counted e v ≤ℤ greatest_counted e d
at_most e d v low held =
    let first : Entry = record { slot = 0; fixed = e.fixed; per = e.per } in
    let bound = sum-le-greatest (first ∷ []) (d ∷ []) (v ∷ [])
    (All-cons (λ (x : Domain). 1 ≤ x.lo) d [] low (All-nil (λ (x : Domain). 1 ≤ x.lo)))
    (All-cons (λ (x : Entry). x.slot < 1) first [] (omega arith) (All-nil (λ (x : Entry). x.slot < 1))) (one_slot d v held) in
    omega (arith, ints, bound)

-- a value of a domain at which an entry counts so much
abbrev Reached : Entry → Domain → ℤ → Type 0
Reached e d most = (v : ℕ) × Holds d v × (counted e v ≡ most)

held_zero : (d : Domain) → d.zero ≡ true → Holds d 0
held_zero d held = record { at_zero = λ _. held; above_zero = λ some. absurd (omega (arith, some)) }

end_reached : (e : Entry) (d : Domain) → 1 ≤ d.lo → d.lo ≤ d.hi → Reached e d (greater_end e d)
end_reached e d low some =
    elim (cases_cond _ (counted e d.lo) (counted e d.hi) (greater_end e d) refl) [
      | inl first ↦ (d.lo, in_range d d.lo low (omega arith) some, sym first)
      | inr last ↦ (d.hi, in_range d d.hi low some (omega arith), sym last)
    ]

zero_or_end : (e : Entry) (d : Domain) → 1 ≤ d.lo → d.lo ≤ d.hi → d.zero ≡ true → Reached e d (int_max (pos 0) (greater_end e d))
zero_or_end e d low some held =
    elim (cases_cond _ (pos 0) (greater_end e d) (int_max (pos 0) (greater_end e d)) refl) [
      | inl none ↦ (0, held_zero d held, sym none)
      | inr end ↦ let at = end_reached e d low some in (at.0, at.1, at.2 ∙ sym end)
    ]

-- a domain that holds neither 0 nor a value of 1 or more
no_value : (d : Domain) → d.hi < d.lo → d.zero ≡ false → values_of d ≡ []
no_value d less bare =
    let none : d.hi + 1 - d.lo ≡ 0 = omega (arith, less) in
    ap₂ (λ (z : Bool) (n : ℕ). cond z (0 ∷ []) [] ++ range_with_len d.lo n) bare none

-- what is shown is reached at a value, or there is none
reached : (e : Entry) (d : Domain) → 1 ≤ d.lo → Reached e d (greatest_counted e d) ⊎ ((greatest_counted e d ≡ pos 0) × (values_of d ≡ []))
reached e d low = by_test (ltb d.hi d.lo) refl d.zero refl
  where
    by_test : (t : Bool) → ltb d.hi d.lo ≡ t → (z : Bool) → d.zero ≡ z
        → Reached e d (cond t (pos 0) (cond z (int_max (pos 0) (greater_end e d)) (greater_end e d)))
        ⊎ ((cond t (pos 0) (cond z (int_max (pos 0) (greater_end e d)) (greater_end e d)) ≡ pos 0) × (values_of d ≡ []))
    by_test true is true held = inl (0, held_zero d held, refl)
    by_test true is false bare = inr (refl, no_value d (ltb-true d.hi d.lo is) bare)
    by_test false is true held = inl (zero_or_end e d low (ltb-false d.hi d.lo is) held)
    by_test false is false bare = inl (end_reached e d low (ltb-false d.hi d.lo is))

pub domains_show : (e : Entry) (d : Domain) → IsNormal d → greatest_counted e d ≡ greatest (counted e) (values_of d)
domains_show e d normal =
    elim (reached e d normal.positive) [
      | inl at ↦
          sym (greatest_is (counted e) (values_of d) (greatest_counted e d) at.0 (values-from_Holds d at.0 at.1) at.2
          (λ v contained. at_most e d v normal.positive (Holds-from_values d v normal.positive contained)))
      | inr none ↦ none.0 ∙ sym (ap (greatest (counted e)) none.1)
    ]
