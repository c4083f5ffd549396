-- Totals of usable certificates are small, and so are the caps that they give.
use Rattle.std.proofs.Common.{◌≡◌, ℕ, zero, suc, ◌+◌, ◌*◌, ◌<◌, ◌≤◌, ◌^◌, Bool, true, false, cond, eqb, List, [], ◌∷◌, length, map, get_or, refl, sym, subst, Some, ap, ⊎_elim, arith, ℤ, pos, negsuc, ◌+ℤ◌, ◌-ℤ◌, ◌*ℤ◌, unsigned_abs}
use Rattle.std.specs.Int.{int_div_euclid}
use Rattle.std.specs.Prelude.{int_lt}
use Rattle.std.specs.List.{All, Contains}
use Rattle.std.proofs.Math.Nat.{mul-le-mul, div-le_self}
use Rattle.std.proofs.lemmas.Bool.{cond-true, cond-false, eq-eqb, ne_eqb, cases_eq}
use Rattle.std.proofs.lemmas.Int.{ints, unsigned_abs-mul, fold-int_max_reached}
use Rattle.std.proofs.lemmas.List.{get_or_default}
use Rattle.std.proofs.lemmas.List.Elements.{All-head, All-tail}
use Rattle.proof_tree.specs.declared.capped.Capped.TheVariants.{AtMost, NoPoint, Bad}
use Rattle.row_kit.specs.declared.domain.Domain.{Domain}
use Rattle.row_kit.specs.declared.program.Program.{Program}
use Rattle.row_kit.specs.declared.row.Entry.{Entry}
use Rattle.row_kit.specs.declared.row.Row.{Row}
use Rattle.row_kit.specs.Bounds.{AreBounded, IsBoundedRow}
use Rattle.row_kit.specs.Domain.{IsNormal, values_of}
use Rattle.row_kit.specs.Row.{counted, entry_at, row_at, no_row}
use Rattle.row_kit.proofs.Ascending.{no_entry, other_slots}
use Rattle.row_kit.proofs.Domains.{Holds-from_values}
use Rattle.row_kit.proofs.Parts.{held_byte}
use Rattle.row_kit.proofs.Values.{part_above, reached_at}
use Rattle.dual_bound.specs.declared.cert.Cert.{Cert}
use Rattle.dual_bound.specs.declared.cert.Mult.{Mult}
use Rattle.dual_bound.specs.declared.line.Line.{Line}
use Rattle.dual_bound.specs.Cap.{IsSmallCap, scaled_cap}
use Rattle.dual_bound.specs.Line.{line_at, slot_line, IsWithin}
use Rattle.dual_bound.specs.Total.{rows_at, limits_sum, gain, greatest, slots_total, total_of, IsFitMult, IsUsable}

pub abs_sum : (x y : ℤ) (m n : ℕ) → unsigned_abs x ≤ m → unsigned_abs y ≤ n → unsigned_abs (x +ℤ y) ≤ m + n
abs_sum x y m n h k = omega (arith, ints)

pub abs_less : (x y : ℤ) (m n : ℕ) → unsigned_abs x ≤ m → unsigned_abs y ≤ n → unsigned_abs (x -ℤ y) ≤ m + n
abs_less x y m n h k = omega (arith, ints)

pub times_abs : (n m k : ℕ) (x : ℤ) → n ≤ m → unsigned_abs x ≤ k → unsigned_abs (pos n *ℤ x) ≤ m * k
times_abs n m k x h l = omega (arith, unsigned_abs-mul (pos n) x, mul-le-mul h l)

pub one_more : (k n : ℕ) → k + k * n ≡ k * suc n
one_more k n = grind arith

counted_small : (e : Entry) (most v : ℕ) → unsigned_abs e.fixed ≤ most → unsigned_abs e.per ≤ most → v ≤ 255 → unsigned_abs (counted e v) ≤ most + most * 255
counted_small e most zero f p h = omega arith
counted_small e most (suc v) f p h =
    let times : unsigned_abs (e.per *ℤ pos (suc v)) ≤ most * 255 = omega (arith, unsigned_abs-mul e.per (pos (suc v)), mul-le-mul p h) in
    subst (λ (x : ℤ). unsigned_abs x ≤ most + most * 255) (sym (part_above e.fixed e.per (suc v) (omega arith))) (abs_sum e.fixed (e.per *ℤ pos (suc v)) most (most * 255) f times)

-- no entry is the slot's
abbrev IsWithout : List Entry → ℕ → Type 0
IsWithout es slot = (k : ℕ) → k < length es → (get_or es k no_entry).slot ≡ slot → ⊥

none_counted : (es : List Entry) (slot v : ℕ) → IsWithout es slot → entry_at es slot v ≡ pos 0
none_counted [] slot v without = refl
none_counted (e ∷ es) slot v without =
    let other = cond-false (eqb e.slot slot) (counted e v) (pos 0) (ne_eqb e.slot slot (without 0 (omega arith))) in
    omega (arith, ints, other, none_counted es slot v (λ k lt. without (suc k) (omega arith)))

-- slots differ
abbrev AreApart : List Entry → Type 0
AreApart es = (j k : ℕ) → j < length es → k < length es → (j ≡ k → ⊥) → (get_or es j no_entry).slot ≡ (get_or es k no_entry).slot → ⊥

tail_apart : (e : Entry) (es : List Entry) → AreApart (e ∷ es) → AreApart es
tail_apart e es apart j k in_j in_k other = apart (suc j) (suc k) (omega arith) (omega arith) (next j k other)
  where
    next : (j k : ℕ) → (j ≡ k → ⊥) → suc j ≡ suc k → ⊥
    next j k other same = omega (arith, other, same)

-- of entries whose slots differ at most one counts for a slot
entry_small : (es : List Entry) (most slot v : ℕ) → AreApart es → All (λ e. unsigned_abs e.fixed ≤ most) es → All (λ e. unsigned_abs e.per ≤ most) es → v ≤ 255 → unsigned_abs (entry_at es slot v) ≤ most + most * 255
entry_small [] most slot v apart f p h = omega arith
entry_small (e ∷ es) most slot v apart f p h =
    let one = counted_small e most v (All-head (λ (x : Entry). unsigned_abs x.fixed ≤ most) e es f) (All-head (λ (x : Entry). unsigned_abs x.per ≤ most) e es p) h in
    ⊎_elim
    (λ (here : e.slot ≡ slot).
    let own = cond-true (eqb e.slot slot) (counted e v) (pos 0) (eq-eqb e.slot slot here) in
    let rest = none_counted es slot v (λ k lt same. apart 0 (suc k) (omega arith) (omega arith) (λ q. absurd (omega arith)) (omega (arith, here, same))) in
    omega (arith, ints, one, own, rest))
    (λ (away : e.slot ≡ slot → ⊥).
    let other = cond-false (eqb e.slot slot) (counted e v) (pos 0) (ne_eqb e.slot slot away) in
    let rest = entry_small es most slot v (tail_apart e es apart) (All-tail (λ (x : Entry). unsigned_abs x.fixed ≤ most) e es f) (All-tail (λ (x : Entry). unsigned_abs x.per ≤ most) e es p) h in
    omega (arith, ints, other, rest))
    (cases_eq e.slot slot)

-- what bounded entries count for a slot at a value
bounded_small : (slots most slot v : ℕ) (es : List Entry) → AreBounded slots most es → v ≤ 255 → unsigned_abs (entry_at es slot v) ≤ most + most * 255
bounded_small slots most slot v es bounded h =
    entry_small es most slot v (λ j k in_j in_k other same. other_slots es bounded.ascending j k in_j in_k other same) bounded.fixed_small bounded.per_small h

rows_small : (slots : ℕ) (rows : List Row) (ms : List Mult) (slot v : ℕ) → All (IsBoundedRow slots) rows → All (IsFitMult (length rows)) ms → v ≤ 255 → unsigned_abs (rows_at rows ms slot v) ≤ 1099511627776 * 2560000000 * length ms
rows_small slots rows [] slot v bounded fit h = omega arith
rows_small slots rows (m ∷ ms) slot v bounded fit h =
    let first = All-head (IsFitMult (length rows)) m ms fit in
    let one = bounded_small slots 10000000 slot v (row_at rows m.row).entries (bounded m.row no_row first.row).entries h in
    omega (arith, ints, times_abs m.factor 1099511627776 2560000000 (entry_at (row_at rows m.row).entries slot v) first.factor (omega (arith, one)), rows_small slots rows ms slot v bounded (All-tail (IsFitMult (length rows)) m ms fit) h)

limits_small : (slots : ℕ) (rows : List Row) (ms : List Mult) → All (IsBoundedRow slots) rows → All (IsFitMult (length rows)) ms → unsigned_abs (limits_sum rows ms) ≤ 1099511627776 * 1000000000000 * length ms
limits_small slots rows [] bounded fit = omega arith
limits_small slots rows (m ∷ ms) bounded fit =
    let first = All-head (IsFitMult (length rows)) m ms fit in
    omega (arith, ints, times_abs m.factor 1099511627776 1000000000000 (row_at rows m.row).limit first.factor (bounded m.row no_row first.row).limit, limits_small slots rows ms bounded (All-tail (IsFitMult (length rows)) m ms fit))

-- what a slot gains at a value
pub gain_small : (program : Program) (cert : Cert) (slot v : ℕ) → IsUsable (length program.rows) cert → v ≤ 255 → unsigned_abs (gain program cert slot v) ≤ 142000000000000000000000000
gain_small program cert slot v usable h =
    let profit = bounded_small (length program.root) 2000000000000000 slot v program.profit program.profit_bounded h in
    let scaled = times_abs cert.scale 1048576 (2000000000000000 + 2000000000000000 * 255) (entry_at program.profit slot v) usable.scale profit in
    let rows = rows_small (length program.root) program.rows cert.mults slot v program.rows_bounded usable.fit h in
    omega (arith, abs_less (pos cert.scale *ℤ entry_at program.profit slot v) (rows_at program.rows cert.mults slot v) _ _ scaled rows, usable.few)

by_two : (f p one two : ℤ) (k : ℕ) → one ≡ f +ℤ p → two ≡ f +ℤ (p +ℤ p) → unsigned_abs one ≤ k → unsigned_abs two ≤ k → (unsigned_abs f ≤ k + k + k) × (unsigned_abs p ≤ k + k)
by_two f p one two k a b h l = (omega (arith, ints), omega (arith, ints))

twice : (p : ℤ) → p *ℤ pos 2 ≡ p +ℤ p
twice p = omega (arith, ints)

once : (p : ℤ) → p *ℤ pos 1 ≡ p
once p = omega (arith, ints)

-- a line is as small as what it counts at 1 and 2
line_small : (line : Line) (k : ℕ) → unsigned_abs (line_at line 1) ≤ k → unsigned_abs (line_at line 2) ≤ k → IsWithin (k + k + k) line
line_small line k h l =
    let both = by_two line.fixed line.per (line_at line 1) (line_at line 2) k (ap (λ (x : ℤ). line.fixed +ℤ x) (once line.per)) (ap (λ (x : ℤ). line.fixed +ℤ x) (twice line.per)) h l in
    record { fixed = both.0; per = omega (arith, both.1) }

-- the lines of what slots gain
pub lines_small : (program : Program) (cert : Cert) (lines : List Line) → IsUsable (length program.rows) cert → ((slot v : ℕ) → slot < length lines → line_at (slot_line lines slot) v ≡ gain program cert slot v) → All (IsWithin (2 ^ 89)) lines
lines_small program cert lines usable exact k d lt =
    let most : ℕ = 142000000000000000000000000 in
    let small : (v : ℕ) → v ≤ 2 → unsigned_abs (line_at (slot_line lines k) v) ≤ most =
    λ v h. subst (λ (x : ℤ). unsigned_abs x ≤ most) (sym (exact k v lt)) (gain_small program cert k v usable (omega (arith, h))) in
    let line = line_small (slot_line lines k) most (small 1 (omega arith)) (small 2 (omega arith)) in
    let here : IsWithin (2 ^ 89) (slot_line lines k) = record { fixed = omega (arith, line.fixed); per = omega (arith, line.per) } in
    subst (IsWithin (2 ^ 89)) (get_or_default lines k (record { fixed = pos 0; per = pos 0 }) d lt) here

pub greatest_small : (f : ℕ → ℤ) (vs : List ℕ) (k : ℕ) → ((v : ℕ) → Contains vs v → unsigned_abs (f v) ≤ k) → unsigned_abs (greatest f vs) ≤ k
greatest_small f [] k h = omega arith
greatest_small f (v ∷ vs) k h =
    let most = greatest f (v ∷ vs) in
    let at = reached_at f v vs most (fold-int_max_reached (f v) (map f vs) most refl) in
    subst (λ (x : ℤ). unsigned_abs x ≤ k) at.2 (h at.0 at.1)

pub slots_small : (f : ℕ → ℕ → ℤ) (k i : ℕ) (ds : List Domain) → All IsNormal ds → ((slot v : ℕ) → v ≤ 255 → unsigned_abs (f slot v) ≤ k) → unsigned_abs (slots_total f i ds) ≤ k * length ds
slots_small f k i [] normal h = omega arith
slots_small f k i (d ∷ ds) normal h =
    let first = All-head IsNormal d ds normal in
    subst (λ (n : ℕ). unsigned_abs (slots_total f i (d ∷ ds)) ≤ n) (one_more k (length ds))
    (abs_sum (greatest (f i) (values_of d)) (slots_total f (i + 1) ds) k (k * length ds)
    (greatest_small (f i) (values_of d) k (λ v c. h i v (held_byte d v first (Holds-from_values d v first.positive c))))
    (slots_small f k (i + 1) ds (All-tail IsNormal d ds normal) h))

-- the total of a usable certificate over normal domains
pub total_small : (program : Program) (ds : List Domain) (cert : Cert) → IsUsable (length program.rows) cert → All IsNormal ds → length ds ≡ length program.root → unsigned_abs (total_of program ds cert) < 10 ^ 30
total_small program ds cert usable normal same =
    let base = times_abs cert.scale 1048576 10000000000000000000000 program.base usable.scale program.base_bounded in
    let limits = limits_small (length program.root) program.rows cert.mults program.rows_bounded usable.fit in
    let slots = slots_small (gain program cert) 142000000000000000000000000 0 ds normal (λ slot v h. gain_small program cert slot v usable h) in
    omega (arith, ints, base, limits, slots, usable.few, same, program.few_slots)

quotient_small : (n : ℕ) (t : ℤ) → unsigned_abs (int_div_euclid t (pos n)) ≤ unsigned_abs t
quotient_small n (pos a) = div-le_self a n
quotient_small n (negsuc a) = omega (arith, div-le_self a n)

-- a cap is no greater than the total, in absolute value
pub cap_small : (scale most : ℕ) (t : ℤ) → unsigned_abs t < most → IsSmallCap most (scaled_cap scale (Some t))
cap_small scale most t h = by_scale (eqb scale 0)
  where
    by_sign : (b : Bool) → IsSmallCap most (cond b NoPoint Bad)
    by_sign true = tt
    by_sign false = tt

    by_scale : (z : Bool) → IsSmallCap most (cond z (cond (int_lt t (pos 0)) NoPoint Bad) (AtMost (int_div_euclid t (pos scale))))
    by_scale true = by_sign (int_lt t (pos 0))
    by_scale false = omega (arith, h, quotient_small scale t)
