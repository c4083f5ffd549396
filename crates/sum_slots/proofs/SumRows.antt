-- The rows of sums are kept exactly where each slot of a sum has the sum's value.
use Rattle.std.proofs.Common.{◌≡◌, ℕ, ◌+◌, ◌≤◌, List, [], ◌∷◌, length, map, get_or, take, drop, refl, sym, ap, ap₂, ◌∙◌, subst, arith, ℤ, pos, neg_ℤ, ◌+ℤ◌, ◌-ℤ◌, ◌*ℤ◌, ◌≤ℤ◌, ◌<ℤ◌, unsigned_abs}
use Rattle.std.specs.List.{All}
use Rattle.std.proofs.lemmas.Int.{ints}
use Rattle.std.proofs.lemmas.List.{drop_all, drop_more}
use Rattle.std.proofs.lemmas.List.Elements.{All-cons, All-head, All-tail, All-nil}
use Rattle.std.proofs.Math.IntN.{pos-*ℤ-pos}
use Rattle.row_kit.specs.Row.{IsKept, entries_sum}
use Rattle.dual_bound.proofs.Signed.{mul_add, neg_mul}
use Rattle.sum_slots.specs.declared.sum.Sum.{Sum}
use Rattle.sum_slots.specs.Larger.{row_above, row_below, sum_rows}
use Rattle.sum_slots.specs.Shown.{opposites}
use Rattle.sum_slots.specs.Sum.{IsByte, IsDeclared, sum_value, value_at}
use Rattle.sum_slots.proofs.EntrySums.{sum-opposites, sum-take, sum-with_slot}
use Rattle.sum_slots.proofs.Quotients.{quotient_above, quotient_below, quotient_is}

-- the next multiple of a width
next_multiple : (n v : ℕ) → pos n *ℤ (pos v +ℤ pos 1) ≡ (pos n *ℤ pos v) +ℤ pos n
next_multiple n v = omega (arith, ints, mul_add n (pos v) (pos 1), pos-*ℤ-pos n 1)

-- what the entries of a sum's two rows sum to
sum_below : (sum : Sum) (slot : ℕ) (point : List ℕ) (v : ℕ) → get_or point slot 0 ≡ v → entries_sum (row_below slot sum).entries point ≡ entries_sum sum.terms point -ℤ (pos sum.width *ℤ pos v)
sum_below sum slot point v at = omega (arith, ints, sum-with_slot sum.terms slot (neg_ℤ (pos sum.width)) point v at, neg_mul (pos sum.width) v)

sum_above : (sum : Sum) (slot : ℕ) (point : List ℕ) (v : ℕ) → get_or point slot 0 ≡ v → entries_sum (row_above slot sum).entries point ≡ (pos sum.width *ℤ pos v) -ℤ entries_sum sum.terms point
sum_above sum slot point v at = omega (arith, ints, sum-with_slot (opposites sum.terms) slot (pos sum.width) point v at, sum-opposites sum.terms point)

-- both rows are kept only where the slot has the sum's value
value-from_rows : (sum : Sum) (slot : ℕ) (point : List ℕ) (v : ℕ) → 1 ≤ sum.width → get_or point slot 0 ≡ v → IsKept point (row_below slot sum) → IsKept point (row_above slot sum) → pos v ≡ sum_value sum point
value-from_rows sum slot point v some at below above =
    let n = sum.width in
    let t = sum.offset +ℤ entries_sum sum.terms point in
    quotient_is n t (pos v) some (omega (arith, ints, sum_above sum slot point v at, above)) (omega (arith, ints, next_multiple n v, sum_below sum slot point v at, below))

-- and are kept there
rows-from_value : (sum : Sum) (slot : ℕ) (point : List ℕ) (v : ℕ) → 1 ≤ sum.width → get_or point slot 0 ≡ v → pos v ≡ sum_value sum point → IsKept point (row_below slot sum) × IsKept point (row_above slot sum)
rows-from_value sum slot point v some at is =
    let n = sum.width in
    let t = sum.offset +ℤ entries_sum sum.terms point in
    let low = subst (λ (z : ℤ). (pos n *ℤ z) ≤ℤ t) (sym is) (quotient_below n t some) in
    let high = subst (λ (z : ℤ). t <ℤ (pos n *ℤ (z +ℤ pos 1))) (sym is) (quotient_above n t some) in
    (omega (arith, ints, high, next_multiple n v, sum_below sum slot point v at), omega (arith, ints, low, sum_above sum slot point v at))

-- the values of sums at a point
abbrev values : List Sum → List ℕ → List ℕ
values sums point = map (λ sum. unsigned_abs (sum_value sum point)) sums

-- a sum of the first slots has the same value at the first values
value-take : (n : ℕ) (sum : Sum) (point : List ℕ) → IsDeclared n sum → sum_value sum (take n point) ≡ sum_value sum point
value-take n sum point declared = ap (value_at sum) (sum-take n sum.terms point declared.terms_bounded.named)

-- where the rows of sums are kept, the slots from theirs on have their values
pub values-from_rows : (n : ℕ) (slot : ℕ) (sums : List Sum) (point : List ℕ) → All (IsDeclared n) sums → slot + length sums ≡ length point → All (IsKept point) (sum_rows slot sums) → drop slot point ≡ values sums (take n point)
values-from_rows n slot [] point declared same kept = drop_all slot point (omega arith)
values-from_rows n slot (sum ∷ sums) point declared same kept =
    let first = All-head (IsDeclared n) sum sums declared in
    let rest = row_above slot sum ∷ sum_rows (slot + 1) sums in
    let below = All-head (IsKept point) (row_below slot sum) rest kept in
    let others = All-tail (IsKept point) (row_below slot sum) rest kept in
    let above = All-head (IsKept point) (row_above slot sum) (sum_rows (slot + 1) sums) others in
    let more = All-tail (IsKept point) (row_above slot sum) (sum_rows (slot + 1) sums) others in
    let is = value-from_rows sum slot point (get_or point slot 0) first.width_some refl below above in
    drop_more point slot 0 (omega arith)
    ∙ ap₂ (λ v vs. v ∷ vs) (ap unsigned_abs (is ∙ sym (value-take n sum point first))) (values-from_rows n (slot + 1) sums point (All-tail (IsDeclared n) sum sums declared) (omega arith) more)

-- and where they have these, which are not below 0, the rows are kept
pub rows-from_values : (n : ℕ) (slot : ℕ) (sums : List Sum) (point : List ℕ) → All (IsDeclared n) sums → slot + length sums ≡ length point → All (λ sum. IsByte (sum_value sum (take n point))) sums → drop slot point ≡ values sums (take n point) → All (IsKept point) (sum_rows slot sums)
rows-from_values n slot [] point declared same bytes are = All-nil (IsKept point)
rows-from_values n slot (sum ∷ sums) point declared same bytes are =
    let first = All-head (IsDeclared n) sum sums declared in
    let byte = All-head (λ (s : Sum). IsByte (sum_value s (take n point))) sum sums bytes in
    let split = sym (drop_more point slot 0 (omega arith)) ∙ are in
    let v = unsigned_abs (sum_value sum (take n point)) in
    let here : get_or point slot 0 ≡ v = cc in
    let later : drop (slot + 1) point ≡ values sums (take n point) = cc in
    let kept = rows-from_value sum slot point v first.width_some here (omega (arith, ints, byte.0, value-take n sum point first)) in
    let more = rows-from_values n (slot + 1) sums point (All-tail (IsDeclared n) sum sums declared) (omega arith) (All-tail (λ (s : Sum). IsByte (sum_value s (take n point))) sum sums bytes) later in
    All-cons (IsKept point) (row_below slot sum) (row_above slot sum ∷ sum_rows (slot + 1) sums) kept.0 (All-cons (IsKept point) (row_above slot sum) (sum_rows (slot + 1) sums) kept.1 more)
