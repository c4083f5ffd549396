-- Sums over the slots of a point are sums over entries.
use Rattle.std.proofs.Common.{◌≡◌, ℕ, zero, suc, ◌+◌, ◌<◌, cond, eqb, List, [], ◌∷◌, length, get_or, refl, sym, ap, ◌∙◌, arith, ℤ, pos, ◌+ℤ◌, ◌-ℤ◌, ◌*ℤ◌, ◌≤ℤ◌}
use Rattle.std.specs.List.{All}
use Rattle.std.proofs.lemmas.Bool.{cond-true, cond-false, eq-eqb, ne_eqb}
use Rattle.std.proofs.lemmas.Int.{ints}
use Rattle.std.proofs.Math.IntN.{*ℤ-zero, +ℤ_idl, +ℤ_idr}
use Rattle.row_kit.specs.declared.domain.Domain.{Domain}
use Rattle.row_kit.specs.declared.program.Program.{Program}
use Rattle.row_kit.specs.declared.row.Entry.{Entry}
use Rattle.row_kit.specs.declared.row.Row.{Row}
use Rattle.row_kit.specs.Domain.{Holds, domain_at, values_of}
use Rattle.row_kit.specs.Point.{value_of}
use Rattle.row_kit.specs.Row.{IsKept, counted, entries_sum, entry_at, row_at}
use Rattle.row_kit.proofs.Domains.{values-from_Holds}
use Rattle.dual_bound.specs.declared.cert.Cert.{Cert}
use Rattle.dual_bound.specs.declared.cert.Mult.{Mult}
use Rattle.dual_bound.specs.Total.{rows_at, limits_sum, gain, greatest, slots_total, total_of, BoundsScaled}
use Rattle.dual_bound.proofs.Signed.{mul_add, mul_le}
use Rattle.dual_bound.proofs.Greatest.{greatest_bound}

-- the sum of a function over the slots of a point, from a slot on
abbrev pub point_sum : (ℕ → ℕ → ℤ) → ℕ → List ℕ → ℤ
point_sum f slot [] = pos 0
point_sum f slot (v ∷ vs) = f slot v +ℤ point_sum f (slot + 1) vs

plus_plus : (a b c d : ℤ) → (a +ℤ b) +ℤ (c +ℤ d) ≡ (a +ℤ c) +ℤ (b +ℤ d)
plus_plus a b c d = omega (arith, ints)

minus_plus : (a b c d : ℤ) → (a -ℤ b) +ℤ (c -ℤ d) ≡ (a +ℤ c) -ℤ (b +ℤ d)
minus_plus a b c d = omega (arith, ints)

point_sum-add : (f g : ℕ → ℕ → ℤ) (i : ℕ) (vs : List ℕ) → point_sum (λ s v. f s v +ℤ g s v) i vs ≡ point_sum f i vs +ℤ point_sum g i vs
point_sum-add f g i [] = refl
point_sum-add f g i (v ∷ vs) =
    ap (λ (x : ℤ). (f i v +ℤ g i v) +ℤ x) (point_sum-add f g (i + 1) vs) ∙ plus_plus (f i v) (g i v) (point_sum f (i + 1) vs) (point_sum g (i + 1) vs)

point_sum-sub : (f g : ℕ → ℕ → ℤ) (i : ℕ) (vs : List ℕ) → point_sum (λ s v. f s v -ℤ g s v) i vs ≡ point_sum f i vs -ℤ point_sum g i vs
point_sum-sub f g i [] = refl
point_sum-sub f g i (v ∷ vs) =
    ap (λ (x : ℤ). (f i v -ℤ g i v) +ℤ x) (point_sum-sub f g (i + 1) vs) ∙ minus_plus (f i v) (g i v) (point_sum f (i + 1) vs) (point_sum g (i + 1) vs)

point_sum-scale : (n : ℕ) (f : ℕ → ℕ → ℤ) (i : ℕ) (vs : List ℕ) → point_sum (λ s v. pos n *ℤ f s v) i vs ≡ pos n *ℤ point_sum f i vs
point_sum-scale n f i [] = sym (*ℤ-zero (pos n))
point_sum-scale n f i (v ∷ vs) =
    ap (λ (x : ℤ). (pos n *ℤ f i v) +ℤ x) (point_sum-scale n f (i + 1) vs) ∙ sym (mul_add n (f i v) (point_sum f (i + 1) vs))

point_sum-zero : (i : ℕ) (vs : List ℕ) → point_sum (λ s v. pos 0) i vs ≡ pos 0
point_sum-zero i [] = refl
point_sum-zero i (v ∷ vs) = ap (λ (x : ℤ). pos 0 +ℤ x) (point_sum-zero (i + 1) vs)

-- what one entry counts for a slot at a value
abbrev at_slot : Entry → ℕ → ℕ → ℤ
at_slot e s v = cond (eqb e.slot s) (counted e v) (pos 0)

at_slot_other : (e : Entry) (s v : ℕ) → (e.slot ≡ s → ⊥) → at_slot e s v ≡ pos 0
at_slot_other e s v h = cond-false (eqb e.slot s) (counted e v) (pos 0) (ne_eqb e.slot s h)

slot_past : (e : Entry) (i : ℕ) (vs : List ℕ) → e.slot < i → point_sum (at_slot e) i vs ≡ pos 0
slot_past e i [] h = refl
slot_past e i (v ∷ vs) h =
    ap (λ (x : ℤ). x +ℤ point_sum (at_slot e) (i + 1) vs) (at_slot_other e i v (λ q. absurd (omega arith)))
    ∙ ap (λ (x : ℤ). pos 0 +ℤ x) (slot_past e (i + 1) vs (omega arith))

slot_ahead : (e : Entry) (i k : ℕ) (vs : List ℕ) → e.slot ≡ i + k → point_sum (at_slot e) i vs ≡ counted e (get_or vs k 0)
slot_ahead e i k [] h = refl
slot_ahead e i zero (v ∷ vs) h =
    ap (λ (x : ℤ). x +ℤ point_sum (at_slot e) (i + 1) vs) (cond-true (eqb e.slot i) (counted e v) (pos 0) (eq-eqb e.slot i (omega arith)))
    ∙ ap (λ (x : ℤ). counted e v +ℤ x) (slot_past e (i + 1) vs (omega arith))
    ∙ +ℤ_idr (counted e v)
slot_ahead e i (suc k) (v ∷ vs) h =
    ap (λ (x : ℤ). x +ℤ point_sum (at_slot e) (i + 1) vs) (at_slot_other e i v (λ q. absurd (omega arith)))
    ∙ +ℤ_idl (point_sum (at_slot e) (i + 1) vs)
    ∙ slot_ahead e (i + 1) k vs (omega arith)

-- over all slots, entries count what they sum to
pub exchange : (es : List Entry) (p : List ℕ) → point_sum (entry_at es) 0 p ≡ entries_sum es p
exchange [] p = point_sum-zero 0 p
exchange (e ∷ es) p =
    point_sum-add (at_slot e) (entry_at es) 0 p
    ∙ ap (λ (x : ℤ). x +ℤ point_sum (entry_at es) 0 p) (slot_ahead e 0 e.slot p (omega arith))
    ∙ ap (λ (x : ℤ). counted e (get_or p e.slot 0) +ℤ x) (exchange es p)

-- the sum of factor times what the row's entries sum to
abbrev rows_sum : List Row → List Mult → List ℕ → ℤ
rows_sum rows [] p = pos 0
rows_sum rows (m ∷ ms) p = (pos m.factor *ℤ entries_sum (row_at rows m.row).entries p) +ℤ rows_sum rows ms p

rows_exchange : (rows : List Row) (ms : List Mult) (p : List ℕ) → point_sum (rows_at rows ms) 0 p ≡ rows_sum rows ms p
rows_exchange rows [] p = point_sum-zero 0 p
rows_exchange rows (m ∷ ms) p =
    point_sum-add (λ s v. pos m.factor *ℤ entry_at (row_at rows m.row).entries s v) (rows_at rows ms) 0 p
    ∙ ap (λ (x : ℤ). x +ℤ point_sum (rows_at rows ms) 0 p) (point_sum-scale m.factor (entry_at (row_at rows m.row).entries) 0 p ∙ ap (λ (x : ℤ). pos m.factor *ℤ x) (exchange (row_at rows m.row).entries p))
    ∙ ap (λ (x : ℤ). (pos m.factor *ℤ entries_sum (row_at rows m.row).entries p) +ℤ x) (rows_exchange rows ms p)

sum_le : (a b c d : ℤ) → a ≤ℤ b → c ≤ℤ d → (a +ℤ c) ≤ℤ (b +ℤ d)
sum_le a b c d h k = omega (arith, ints)

-- the rows that are kept sum to at most their limits
rows_below : (rows : List Row) (ms : List Mult) (p : List ℕ) → All (λ m. m.row < length rows) ms → All (IsKept p) rows → rows_sum rows ms p ≤ℤ limits_sum rows ms
rows_below rows [] p there kept = omega (arith, ints)
rows_below rows (m ∷ ms) p there kept =
    sum_le (pos m.factor *ℤ entries_sum (row_at rows m.row).entries p) (pos m.factor *ℤ (row_at rows m.row).limit) (rows_sum rows ms p) (limits_sum rows ms)
    (mul_le m.factor (entries_sum (row_at rows m.row).entries p) (row_at rows m.row).limit (kept m.row (record { entries = []; limit = pos 0 }) (there 0 m (omega arith))))
    (rows_below rows ms p (λ k d h. there (suc k) d (omega arith)) kept)

-- each slot's value gains at most the greatest of its domain
pub slots_above : (f : ℕ → ℕ → ℤ) (i : ℕ) (ds : List Domain) (p : List ℕ) → length p ≡ length ds → ((k : ℕ) → k < length ds → Holds (domain_at ds k) (get_or p k 0)) → point_sum f i p ≤ℤ slots_total f i ds
slots_above f i [] [] e held = omega (arith, ints)
slots_above f i [] (v ∷ vs) e held = absurd (omega arith)
slots_above f i (d ∷ ds) [] e held = absurd (omega arith)
slots_above f i (d ∷ ds) (v ∷ vs) e held =
    sum_le (f i v) (greatest (f i) (values_of d)) (point_sum f (i + 1) vs) (slots_total f (i + 1) ds)
    (greatest_bound (f i) (values_of d) v (values-from_Holds d v (held 0 (omega arith))))
    (slots_above f (i + 1) ds vs (omega arith) (λ k h. held (suc k) (omega arith)))

joined : (s b e v r l g t : ℤ) → v ≡ b +ℤ e → g ≡ e -ℤ r → r ≤ℤ l → g ≤ℤ t → v ≤ℤ ((b +ℤ l) +ℤ t)
joined s b e v r l g t p q h k = omega (arith, ints)

at_most_itself : (x : ℤ) → x ≤ℤ x
at_most_itself x = omega (arith, ints)

then_total : (v f g t : ℤ) → v ≤ℤ (f +ℤ g) → g ≤ℤ t → v ≤ℤ (f +ℤ t)
then_total v f g t h k = omega (arith, ints)

-- scale times the value of a point that keeps the rows is at most what base and limits count, and what its values gain
pub value-gains : (program : Program) (cert : Cert) → All (λ m. m.row < length program.rows) cert.mults → (p : List ℕ) → All (IsKept p) program.rows → (pos cert.scale *ℤ value_of program p) ≤ℤ (((pos cert.scale *ℤ program.base) +ℤ limits_sum program.rows cert.mults) +ℤ point_sum (gain program cert) 0 p)
value-gains program cert there p kept =
    let scaled = mul_add cert.scale program.base (entries_sum program.profit p) in
    let gains =
    point_sum-sub (λ s v. pos cert.scale *ℤ entry_at program.profit s v) (rows_at program.rows cert.mults) 0 p
    ∙ ap (λ (x : ℤ). x -ℤ point_sum (rows_at program.rows cert.mults) 0 p) (point_sum-scale cert.scale (entry_at program.profit) 0 p ∙ ap (λ (x : ℤ). pos cert.scale *ℤ x) (exchange program.profit p))
    ∙ ap (λ (x : ℤ). (pos cert.scale *ℤ entries_sum program.profit p) -ℤ x) (rows_exchange program.rows cert.mults p) in
    joined (pos 0) (pos cert.scale *ℤ program.base) (pos cert.scale *ℤ entries_sum program.profit p) (pos cert.scale *ℤ value_of program p) (rows_sum program.rows cert.mults p) (limits_sum program.rows cert.mults) (point_sum (gain program cert) 0 p) (point_sum (gain program cert) 0 p)
    scaled gains (rows_below program.rows cert.mults p there kept) (at_most_itself (point_sum (gain program cert) 0 p))

-- weak duality: scale times the value of a point that keeps the rows is at most the total
pub duality : (program : Program) (ds : List Domain) (cert : Cert) → All (λ m. m.row < length program.rows) cert.mults → BoundsScaled program ds cert.scale (total_of program ds cert)
duality program ds cert there = λ p lies kept.
    then_total (pos cert.scale *ℤ value_of program p) ((pos cert.scale *ℤ program.base) +ℤ limits_sum program.rows cert.mults) (point_sum (gain program cert) 0 p) (slots_total (gain program cert) 0 ds)
    (value-gains program cert there p kept) (slots_above (gain program cert) 0 ds p lies.same_length lies.held)
