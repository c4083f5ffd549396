-- A row's own entry, and the least that its entries sum to.
use Rattle.std.proofs.Common.{◌≡◌, ℕ, zero, suc, ◌<◌, eqb, cond, List, [], ◌∷◌, length, map, get_or, set, refl, ap, ⊎_elim, arith, ℤ, pos, ◌+ℤ◌, ◌≤ℤ◌}
use Rattle.std.specs.List.{All}
use Rattle.std.specs.List.Sorted.{IsStrictlyIncreasing}
use Rattle.std.proofs.lemmas.Bool.{cond-true, cond-false, eq-eqb, ne_eqb, cases_eq}
use Rattle.std.proofs.lemmas.Int.{ints}
use Rattle.std.proofs.lemmas.List.{get_or-set_other}
use Rattle.std.proofs.lemmas.List.Elements.{All-head, All-tail}
use Rattle.row_kit.specs.declared.domain.Domain.{Domain}
use Rattle.row_kit.specs.declared.row.Entry.{Entry}
use Rattle.row_kit.specs.Domain.{domain_at, no_values, values_of}
use Rattle.row_kit.specs.Point.{LiesIn}
use Rattle.row_kit.specs.Row.{counted, entries_sum, entry_at}
use Rattle.row_kit.proofs.Ascending.{no_entry, other_slots}
use Rattle.row_kit.proofs.Domains.{values-from_Holds}
use Rattle.range_prop.specs.Cut.{least, least_counted, least_others}
use Rattle.range_prop.specs.laws.Sums.{least_sum}
use Rattle.range_prop.proofs.Least.{least_bound}

-- no entry is the slot's
abbrev pub IsWithout : List Entry → ℕ → Type 0
IsWithout es slot = (j : ℕ) → j < length es → (get_or es j no_entry).slot ≡ slot → ⊥

tail_without : (e : Entry) (es : List Entry) (slot : ℕ) → IsWithout (e ∷ es) slot → IsWithout es slot
tail_without e es slot without j lt = without (suc j) (omega arith)

pub own_without : (es : List Entry) (slot v : ℕ) → IsWithout es slot → entry_at es slot v ≡ pos 0
own_without [] slot v without = refl
own_without (e ∷ es) slot v without =
    let other = cond-false (eqb e.slot slot) (counted e v) (pos 0) (ne_eqb e.slot slot (without 0 (omega arith))) in
    omega (arith, ints, other, own_without es slot v (tail_without e es slot without))

pub others_without : (es : List Entry) (slot : ℕ) (ds : List Domain) → IsWithout es slot → least_others es slot ds ≡ least_sum es ds
others_without [] slot ds without = refl
others_without (e ∷ es) slot ds without =
    let other = cond-false (eqb e.slot slot) (pos 0) (least_counted ds e) (ne_eqb e.slot slot (without 0 (omega arith))) in
    omega (arith, ints, other, others_without es slot ds (tail_without e es slot without))

-- no other entry is the slot's
abbrev pub IsAlone : List Entry → ℕ → Type 0
IsAlone es k = (j : ℕ) → j < length es → (j ≡ k → ⊥) → (get_or es j no_entry).slot ≡ (get_or es k no_entry).slot → ⊥

-- in a row each entry is alone
pub alone : (es : List Entry) → IsStrictlyIncreasing (map (λ e. e.slot) es) → (k : ℕ) → k < length es → IsAlone es k
alone es up k lt j in_j apart = other_slots es up j k in_j lt apart

next_apart : (j k : ℕ) → (j ≡ k → ⊥) → suc j ≡ suc k → ⊥
next_apart j k apart e = omega (arith, apart, e)

pub own_alone : (es : List Entry) (k v : ℕ) → k < length es → IsAlone es k → entry_at es (get_or es k no_entry).slot v ≡ counted (get_or es k no_entry) v
own_alone [] k v lt only = absurd (omega arith)
own_alone (e ∷ es) zero v lt only =
    let own = cond-true (eqb e.slot e.slot) (counted e v) (pos 0) (eq-eqb e.slot e.slot refl) in
    omega (arith, ints, own, own_without es e.slot v (λ j h. only (suc j) (omega arith) (λ q. absurd (omega arith))))
own_alone (e ∷ es) (suc k) v lt only =
    let slot = (get_or es k no_entry).slot in
    let other = cond-false (eqb e.slot slot) (counted e v) (pos 0) (ne_eqb e.slot slot (only 0 (omega arith) (λ q. absurd (omega arith)))) in
    omega (arith, ints, other, own_alone es k v (omega arith) (λ j h apart. only (suc j) (omega arith) (next_apart j k apart)))

pub others_alone : (es : List Entry) (k : ℕ) (ds : List Domain) → k < length es → IsAlone es k → least_others es (get_or es k no_entry).slot ds +ℤ least_counted ds (get_or es k no_entry) ≡ least_sum es ds
others_alone [] k ds lt only = absurd (omega arith)
others_alone (e ∷ es) zero ds lt only =
    let own = cond-true (eqb e.slot e.slot) (pos 0) (least_counted ds e) (eq-eqb e.slot e.slot refl) in
    omega (arith, ints, own, others_without es e.slot ds (λ j h. only (suc j) (omega arith) (λ q. absurd (omega arith))))
others_alone (e ∷ es) (suc k) ds lt only =
    let slot = (get_or es k no_entry).slot in
    let other = cond-false (eqb e.slot slot) (pos 0) (least_counted ds e) (ne_eqb e.slot slot (only 0 (omega arith) (λ q. absurd (omega arith)))) in
    omega (arith, ints, other, others_alone es k ds (omega arith) (λ j h apart. only (suc j) (omega arith) (next_apart j k apart)))

-- what a row sums to at a point is at least its own entry plus the least others
pub row_at_least : (es : List Entry) (slot : ℕ) (ds : List Domain) (p : List ℕ) → All (λ e. e.slot < length ds) es → LiesIn ds p → (entry_at es slot (get_or p slot 0) +ℤ least_others es slot ds) ≤ℤ entries_sum es p
row_at_least [] slot ds p named lies = omega (arith, ints)
row_at_least (e ∷ es) slot ds p named lies =
    let rest = row_at_least es slot ds p (All-tail (λ x. x.slot < length ds) e es named) lies in
    let lt = All-head (λ x. x.slot < length ds) e es named in
    let low = least_bound (counted e) (values_of (domain_at ds e.slot)) (get_or p e.slot 0) (values-from_Holds (domain_at ds e.slot) (get_or p e.slot 0) (lies.held e.slot lt)) in
    ⊎_elim
    (λ (same : e.slot ≡ slot).
    let own = cond-true (eqb e.slot slot) (counted e (get_or p slot 0)) (pos 0) (eq-eqb e.slot slot same) in
    let none = cond-true (eqb e.slot slot) (pos 0) (least_counted ds e) (eq-eqb e.slot slot same) in
    let at = ap (λ (n : ℕ). counted e (get_or p n 0)) same in
    omega (arith, ints, rest, own, none, at))
    (λ (apart : e.slot ≡ slot → ⊥).
    let own = cond-false (eqb e.slot slot) (counted e (get_or p slot 0)) (pos 0) (ne_eqb e.slot slot apart) in
    let some = cond-false (eqb e.slot slot) (pos 0) (least_counted ds e) (ne_eqb e.slot slot apart) in
    omega (arith, ints, rest, own, some, low))
    (cases_eq e.slot slot)

-- a slot that no entry names has no part in what the row sums to at least
pub least_counted-set : (ds : List Domain) (slot : ℕ) (d : Domain) (e : Entry) → (e.slot ≡ slot → ⊥) → least_counted (set ds slot d) e ≡ least_counted ds e
least_counted-set ds slot d e apart = ap (λ (x : Domain). least (counted e) (values_of x)) (get_or-set_other ds slot e.slot d no_values apart)

pub least_sum-without : (es : List Entry) (slot : ℕ) (ds : List Domain) (d : Domain) → IsWithout es slot → least_sum es (set ds slot d) ≡ least_sum es ds
least_sum-without [] slot ds d without = refl
least_sum-without (e ∷ es) slot ds d without =
    omega (arith, ints, least_counted-set ds slot d e (without 0 (omega arith)), least_sum-without es slot ds d (tail_without e es slot without))

pub least_others-without : (es : List Entry) (slot other : ℕ) (ds : List Domain) (d : Domain) → IsWithout es slot → least_others es other (set ds slot d) ≡ least_others es other ds
least_others-without [] slot other ds d without = refl
least_others-without (e ∷ es) slot other ds d without =
    let same = ap (λ (x : ℤ). cond (eqb e.slot other) (pos 0) x) (least_counted-set ds slot d e (without 0 (omega arith))) in
    omega (arith, ints, same, least_others-without es slot other ds d (tail_without e es slot without))

-- what the others sum to does not depend on the slot's own domain
pub least_others-own : (es : List Entry) (slot : ℕ) (ds : List Domain) (d : Domain) → least_others es slot (set ds slot d) ≡ least_others es slot ds
least_others-own [] slot ds d = refl
least_others-own (e ∷ es) slot ds d =
    let rest = least_others-own es slot ds d in
    ⊎_elim
    (λ (same : e.slot ≡ slot).
    let t = eq-eqb e.slot slot same in
    omega (arith, ints, rest, cond-true (eqb e.slot slot) (pos 0) (least_counted (set ds slot d) e) t, cond-true (eqb e.slot slot) (pos 0) (least_counted ds e) t))
    (λ (apart : e.slot ≡ slot → ⊥).
    let same = ap (λ (x : ℤ). cond (eqb e.slot slot) (pos 0) x) (least_counted-set ds slot d e apart) in
    omega (arith, ints, rest, same))
    (cases_eq e.slot slot)
