-- What entries count: turned round, multiplied, at a point that is cut back, and at most over domains.
use Rattle.std.proofs.Common.{◌≡◌, ℕ, zero, suc, ◌<◌, ◌≤◌, Bool, true, false, cond, eqb, ltb, ◌&&◌, List, [], ◌∷◌, ◌++◌, length, get_or, take, refl, sym, ap, ap₂, ◌∙◌, arith, inl, inr, ℤ, pos, negsuc, neg_ℤ, ◌+ℤ◌, ◌*ℤ◌, ◌≤ℤ◌}
use Rattle.std.specs.Int.{int_max}
use Rattle.std.specs.List.{All}
use Rattle.std.specs.Ordering.{int_eq}
use Rattle.std.proofs.lemmas.Bool.{and_parts, eqb-true, false≢true, ltb-true}
use Rattle.std.proofs.lemmas.Bool.Decides.{Decides-int_eq}
use Rattle.std.proofs.lemmas.Int.{ints, clamps}
use Rattle.std.proofs.lemmas.List.{get_or-take}
use Rattle.std.proofs.lemmas.List.Elements.{All-head, All-tail}
use Rattle.std.proofs.Math.IntN.{*ℤ_comm, *ℤ-zero}
use Rattle.row_kit.specs.declared.domain.Domain.{Domain}
use Rattle.row_kit.specs.declared.row.Entry.{Entry}
use Rattle.row_kit.specs.Domain.{Holds, domain_at}
use Rattle.row_kit.specs.Point.{LiesIn}
use Rattle.row_kit.specs.Row.{counted, entries_sum}
use Rattle.row_kit.proofs.Values.{part_above, by_value}
use Rattle.dual_bound.proofs.Signed.{mul_add, mul_assoc, mul_le, neg_mul}
use Rattle.sum_slots.specs.Shown.{turned, opposites, greater_end, greatest_counted, greatest_sum, is_multiple, are_multiples}
use Rattle.sum_slots.specs.Larger.{slot_entry}

-- the opposite of an entry counts the opposite
counted-turned : (e : Entry) (v : ℕ) → counted (turned true e) v ≡ neg_ℤ (counted e v)
counted-turned e zero = refl
counted-turned e (suc v) =
    part_above (neg_ℤ e.fixed) (neg_ℤ e.per) (suc v) (omega arith)
    ∙ omega (arith, ints, neg_mul e.per (suc v), ap neg_ℤ (part_above e.fixed e.per (suc v) (omega arith)))

pub sum-opposites : (es : List Entry) (point : List ℕ) → entries_sum (opposites es) point ≡ neg_ℤ (entries_sum es point)
sum-opposites [] point = refl
sum-opposites (e ∷ es) point = omega (arith, ints, counted-turned e (get_or point e.slot 0), sum-opposites es point)

-- the entry of a slot, for each unit of its value
counted-slot : (slot : ℕ) (per : ℤ) (v : ℕ) → counted (slot_entry slot per) v ≡ per *ℤ pos v
counted-slot slot per zero = sym (*ℤ-zero per)
counted-slot slot per (suc v) = part_above (pos 0) per (suc v) (omega arith) ∙ omega (arith, ints)

sum-append : (es fs : List Entry) (point : List ℕ) → entries_sum (es ++ fs) point ≡ entries_sum es point +ℤ entries_sum fs point
sum-append [] fs point = omega (arith, ints)
sum-append (e ∷ es) fs point = omega (arith, ints, sum-append es fs point)

pub sum-with_slot : (es : List Entry) (slot : ℕ) (per : ℤ) (point : List ℕ) (v : ℕ) → get_or point slot 0 ≡ v → entries_sum (es ++ slot_entry slot per ∷ []) point ≡ entries_sum es point +ℤ (per *ℤ pos v)
sum-with_slot es slot per point v e =
    sum-append es (slot_entry slot per ∷ []) point
    ∙ omega (arith, ints, counted-slot slot per (get_or point slot 0), ap (λ (n : ℕ). per *ℤ pos n) e)

-- entries of the first slots count the same at the first values
pub sum-take : (n : ℕ) (es : List Entry) (point : List ℕ) → All (λ e. e.slot < n) es → entries_sum es (take n point) ≡ entries_sum es point
sum-take n [] point named = refl
sum-take n (e ∷ es) point named =
    let here : e.slot < n = All-head (λ (x : Entry). x.slot < n) e es named in
    ap₂ (λ (x y : ℤ). x +ℤ y) (ap (counted e) (get_or-take n point e.slot 0 here)) (sum-take n es point (All-tail (λ (x : Entry). x.slot < n) e es named))

-- a multiple of an entry counts the multiple
counted-multiple : (k : ℕ) (term entry : Entry) (v : ℕ) → is_multiple k term entry ≡ true → (entry.slot ≡ term.slot) × (counted entry v ≡ pos k *ℤ counted term v)
counted-multiple k term entry v is =
    let two = and_parts (eqb entry.slot term.slot && int_eq entry.fixed (pos k *ℤ term.fixed)) (int_eq entry.per (pos k *ℤ term.per)) is in
    let one = and_parts (eqb entry.slot term.slot) (int_eq entry.fixed (pos k *ℤ term.fixed)) two.0 in
    (eqb-true entry.slot term.slot one.0, at v ((Decides-int_eq entry.fixed (pos k *ℤ term.fixed)).0 one.1) ((Decides-int_eq entry.per (pos k *ℤ term.per)).0 two.1))
  where
    at : (v : ℕ) → entry.fixed ≡ pos k *ℤ term.fixed → entry.per ≡ pos k *ℤ term.per → counted entry v ≡ pos k *ℤ counted term v
    at zero f p = sym (*ℤ-zero (pos k))
    at (suc v) f p =
        part_above entry.fixed entry.per (suc v) (omega arith)
        ∙ ap₂ (λ (x y : ℤ). x +ℤ (y *ℤ pos (suc v))) f p
        ∙ ap (λ (x : ℤ). (pos k *ℤ term.fixed) +ℤ x) (sym (mul_assoc k (suc v) term.per))
        ∙ sym (mul_add k term.fixed (term.per *ℤ pos (suc v)))
        ∙ ap (λ (x : ℤ). pos k *ℤ x) (sym (part_above term.fixed term.per (suc v) (omega arith)))

pub sum-multiples : (k : ℕ) (terms entries : List Entry) (point : List ℕ) → are_multiples k terms entries ≡ true → entries_sum entries point ≡ pos k *ℤ entries_sum terms point
sum-multiples k [] [] point is = sym (*ℤ-zero (pos k))
sum-multiples k [] (e ∷ es) point is = absurd (cc)
sum-multiples k (t ∷ ts) [] point is = absurd (cc)
sum-multiples k (t ∷ ts) (e ∷ es) point is =
    let both = and_parts (is_multiple k t e) (are_multiples k ts es) is in
    let here = counted-multiple k t e (get_or point e.slot 0) both.0 in
    ap₂ (λ (x y : ℤ). x +ℤ y) (here.1 ∙ ap (λ (n : ℕ). pos k *ℤ counted t (get_or point n 0)) here.0) (sum-multiples k ts es point both.1)
    ∙ sym (mul_add k (counted t (get_or point t.slot 0)) (entries_sum ts point))

-- at a value between two others a product is at most the greater of theirs
between : (per : ℤ) (l v h : ℕ) → l ≤ v → v ≤ h → (per *ℤ pos v) ≤ℤ int_max (per *ℤ pos l) (per *ℤ pos h)
between (pos a) l v h low high =
    omega (arith, ints, clamps, *ℤ_comm (pos a) (pos v), *ℤ_comm (pos a) (pos h), mul_le a (pos v) (pos h) (omega (arith, ints)))
between (negsuc a) l v h low high =
    omega (arith, ints, clamps, neg_mul (pos (suc a)) v, neg_mul (pos (suc a)) l, mul_le (suc a) (pos l) (pos v) (omega (arith, ints)))

shift_max : (f x y : ℤ) → int_max (f +ℤ x) (f +ℤ y) ≡ f +ℤ int_max x y
shift_max f x y = omega (arith, ints, clamps)

-- an entry counts at a value of the range at most what it does at an end
counted-le-end : (e : Entry) (d : Domain) (v : ℕ) → 1 ≤ d.lo → d.lo ≤ v → v ≤ d.hi → counted e v ≤ℤ greater_end e d
counted-le-end e d v some low high =
    let at = part_above e.fixed e.per in
    let ends = ap₂ (λ (x y : ℤ). int_max x y) (at d.lo some) (at d.hi (omega arith)) ∙ shift_max e.fixed (e.per *ℤ pos d.lo) (e.per *ℤ pos d.hi) in
    omega (arith, ints, at v (omega arith), ends, between e.per d.lo v d.hi low high)

-- an entry counts at each value of a domain at most its greatest
counted-le-greatest : (e : Entry) (d : Domain) (v : ℕ) → 1 ≤ d.lo → Holds d v → counted e v ≤ℤ greatest_counted e d
counted-le-greatest e d v some held = by_test (ltb d.hi d.lo) refl d.zero refl
  where
    at_zero : v ≡ 0 → counted e v ≡ pos 0
    at_zero none = ap (counted e) none

    by_test : (t : Bool) → ltb d.hi d.lo ≡ t → (z : Bool) → d.zero ≡ z → counted e v ≤ℤ cond t (pos 0) (cond z (int_max (pos 0) (greater_end e d)) (greater_end e d))
    by_test true is z with_zero =
        elim (by_value d v held) [
          | inl none ↦ omega (arith, ints, at_zero none.0)
          | inr in' ↦ absurd (omega (arith, ltb-true d.hi d.lo is, in'.1, in'.2))
        ]
    by_test false is true with_zero =
        elim (by_value d v held) [
          | inl none ↦ omega (arith, ints, clamps, at_zero none.0)
          | inr in' ↦ omega (arith, ints, clamps, counted-le-end e d v some in'.1 in'.2)
        ]
    by_test false is false with_zero =
        elim (by_value d v held) [
          | inl none ↦ absurd (false≢true (sym with_zero ∙ none.1))
          | inr in' ↦ counted-le-end e d v some in'.1 in'.2
        ]

pub sum-le-greatest : (es : List Entry) (ds : List Domain) (point : List ℕ) → All (λ (d : Domain). 1 ≤ d.lo) ds → All (λ e. e.slot < length ds) es → LiesIn ds point → entries_sum es point ≤ℤ greatest_sum es ds
sum-le-greatest [] ds point some named lies = omega (arith, ints)
sum-le-greatest (e ∷ es) ds point some named lies =
    let here : e.slot < length ds = All-head (λ (x : Entry). x.slot < length ds) e es named in
    let d = domain_at ds e.slot in
    omega (arith, ints, counted-le-greatest e d (get_or point e.slot 0) (some e.slot _ here) (lies.held e.slot here), sum-le-greatest es ds point some (All-tail (λ (x : Entry). x.slot < length ds) e es named) lies)
