-- What a floor forgets is worth at most the floor.
use Rattle.std.proofs.Common.{◌≡◌, ℕ, zero, suc, ◌+◌, ◌<◌, ◌≤◌, Bool, true, false, ◌&&◌, cond, leb, ltb, List, [], ◌∷◌, length, get_or, refl, sym, ap, ◌∙◌, subst, ◌⊎◌, inl, inr, ⊎_elim, arith, ℤ, pos, ◌+ℤ◌, ◌-ℤ◌, ◌*ℤ◌, ◌≤ℤ◌, ◌<ℤ◌}
use Rattle.std.specs.Prelude.{int_le}
use Rattle.std.specs.List.{All, list_all}
use Rattle.std.proofs.lemmas.Bool.{and_parts, cases_eq, cond-true, cond-false}
use Rattle.std.proofs.lemmas.Int.{ints, by_lt_z}
use Rattle.row_kit.specs.declared.domain.Domain.{Domain}
use Rattle.row_kit.specs.declared.program.Program.{Program}
use Rattle.row_kit.specs.Domain.{Holds, IsNormal, count_of, domain_at, no_values, values_of}
use Rattle.row_kit.specs.Point.{LiesIn, value_of}
use Rattle.row_kit.specs.Points.{points_of}
use Rattle.row_kit.specs.Row.{IsKept}
use Rattle.row_kit.proofs.Domains.{values-from_Holds}
use Rattle.dual_bound.specs.declared.cert.Cert.{Cert}
use Rattle.dual_bound.specs.Total.{are_fit, gain, greatest, has_total, is_fit, limits_sum, slots_total}
use Rattle.dual_bound.specs.Trimmed.{each_passing, may_exceed, passing, total_with, trimmed}
use Rattle.dual_bound.proofs.Exchange.{point_sum, slots_above, value-gains}
use Rattle.dual_bound.proofs.Fit.{fit_all}
use Rattle.dual_bound.proofs.Greatest.{greatest_bound}
use Rattle.dual_bound.proofs.Passing.{each-at, each-length, each-fewer, each-normal, passing_holds}
use Rattle.dual_bound.proofs.Signed.{mul_le}

-- the gains of a point are at most the greatest of all slots but one, and what that one gains
swap_first : (g s m t : ℤ) → s ≤ℤ t → (g +ℤ s) ≤ℤ (((m +ℤ t) -ℤ m) +ℤ g)
swap_first g s m t h = omega (arith, ints)

swap_later : (g s m t n h : ℤ) → g ≤ℤ m → s ≤ℤ ((t -ℤ n) +ℤ h) → (g +ℤ s) ≤ℤ (((m +ℤ t) -ℤ n) +ℤ h)
swap_later g s m t n h a b = omega (arith, ints)

slots_with : (f : ℕ → ℕ → ℤ) (i j k : ℕ) (ds : List Domain) (p : List ℕ) → j ≡ i + k → k < length ds → length p ≡ length ds → ((k : ℕ) → k < length ds → Holds (domain_at ds k) (get_or p k 0)) → point_sum f i p ≤ℤ ((slots_total f i ds -ℤ greatest (f j) (values_of (domain_at ds k))) +ℤ f j (get_or p k 0))
slots_with f i j k [] p e lt same held = absurd (omega arith)
slots_with f i j k (d ∷ ds) [] e lt same held = absurd (omega arith)
slots_with f i j zero (d ∷ ds) (v ∷ vs) e lt same held =
    let at : i ≡ j = omega (arith, e) in
    subst (λ (n : ℕ). (f i v +ℤ point_sum f (i + 1) vs) ≤ℤ (((greatest (f i) (values_of d) +ℤ slots_total f (i + 1) ds) -ℤ greatest (f n) (values_of d)) +ℤ f n v)) at
    (swap_first (f i v) (point_sum f (i + 1) vs) (greatest (f i) (values_of d)) (slots_total f (i + 1) ds)
    (slots_above f (i + 1) ds vs (omega (arith, same)) (λ k h. held (suc k) (omega arith))))
slots_with f i j (suc k) (d ∷ ds) (v ∷ vs) e lt same held =
    swap_later (f i v) (point_sum f (i + 1) vs) (greatest (f i) (values_of d)) (slots_total f (i + 1) ds) (greatest (f j) (values_of (domain_at ds k))) (f j (get_or vs k 0))
    (greatest_bound (f i) (values_of d) v (values-from_Holds d v (held 0 (omega arith))))
    (slots_with f (i + 1) j k ds vs (omega (arith, e)) (omega (arith, lt)) (omega (arith, same)) (λ k h. held (suc k) (omega arith)))

gathered : (x b g t m h : ℤ) → x ≤ℤ (b +ℤ g) → g ≤ℤ ((t -ℤ m) +ℤ h) → x ≤ℤ (((b +ℤ t) -ℤ m) +ℤ h)
gathered x b g t m h p q = omega (arith, ints)

-- scale times the value of a point is at most the total with its value at a slot
with_bounds : (program : Program) (ds : List Domain) (cert : Cert) (p : List ℕ) (slot : ℕ) → All (λ m. m.row < length program.rows) cert.mults → LiesIn ds p → All (IsKept p) program.rows → slot < length ds → (pos cert.scale *ℤ value_of program p) ≤ℤ total_with program ds cert slot (get_or p slot 0)
with_bounds program ds cert p slot there lies kept lt =
    gathered (pos cert.scale *ℤ value_of program p) ((pos cert.scale *ℤ program.base) +ℤ limits_sum program.rows cert.mults) (point_sum (gain program cert) 0 p) (slots_total (gain program cert) 0 ds) (greatest (gain program cert slot) (values_of (domain_at ds slot))) (gain program cert slot (get_or p slot 0))
    (value-gains program cert there p kept)
    (slots_with (gain program cert) 0 slot slot ds p (omega arith) lt lies.same_length lies.held)

after : (v n : ℤ) → n <ℤ v → (n +ℤ pos 1) ≤ℤ v
after v n h = omega (arith, ints)

clash : (a t b : ℤ) → a ≤ℤ t → t <ℤ b → b ≤ℤ a → ⊥
clash a t b h k l = omega (arith, ints)

false_less : (a b : ℤ) → int_le a b ≡ false → b <ℤ a
false_less a b e = grind (arith, ints)

-- a point with a value that may not exceed a floor is worth at most the floor
at_most_floor : (program : Program) (ds : List Domain) (cert : Cert) (floor : ℤ) (p : List ℕ) (slot : ℕ) → All (λ m. m.row < length program.rows) cert.mults → LiesIn ds p → All (IsKept p) program.rows → slot < length ds → may_exceed program ds cert floor slot (get_or p slot 0) ≡ false → value_of program p ≤ℤ floor
at_most_floor program ds cert floor p slot there lies kept lt e =
    by_lt_z floor (value_of program p)
    (λ (more : floor <ℤ value_of program p).
    absurd (clash (pos cert.scale *ℤ value_of program p) (total_with program ds cert slot (get_or p slot 0)) (pos cert.scale *ℤ (floor +ℤ pos 1))
    (with_bounds program ds cert p slot there lies kept lt)
    (false_less (pos cert.scale *ℤ (floor +ℤ pos 1)) (total_with program ds cert slot (get_or p slot 0)) e)
    (mul_le cert.scale (floor +ℤ pos 1) (value_of program p) (after (value_of program p) floor more))))
    (λ (le : value_of program p ≤ℤ floor). le)

-- all numbers below one pass, or some does not
decided : (test : ℕ → Bool) (n : ℕ) → ((k : ℕ) → k < n → test k ≡ true) ⊎ ((k : ℕ) × (k < n) × (test k ≡ false))
decided test zero = inl (λ k lt. absurd (omega arith))
decided test (suc n) = step (test n) refl (decided test n)
  where
    step : (b : Bool) → test n ≡ b → ((k : ℕ) → k < n → test k ≡ true) ⊎ ((k : ℕ) × (k < n) × (test k ≡ false)) → ((k : ℕ) → k < suc n → test k ≡ true) ⊎ ((k : ℕ) × (k < suc n) × (test k ≡ false))
    step false e rest = inr (n, omega arith, e)
    step true e rest =
        ⊎_elim
        (λ (all : (k : ℕ) → k < n → test k ≡ true).
        inl (λ k lt. ⊎_elim (λ (same : k ≡ n). ap test same ∙ e) (λ (apart : k ≡ n → ⊥). all k (omega (arith, lt, apart))) (cases_eq k n)))
        (λ (some : (k : ℕ) × (k < n) × (test k ≡ false)). inr (some.0, omega (arith, some.1), some.2))
        rest

-- a point whose values all pass is left
pub lies_passing : (test : ℕ → ℕ → Bool) (ds : List Domain) (p : List ℕ) → LiesIn ds p → ((k : ℕ) → k < length ds → test k (get_or p k 0) ≡ true) → LiesIn (each_passing test 0 ds) p
lies_passing test ds p lies all = record {
  same_length = lies.same_length ∙ sym (each-length test 0 ds);
  held = λ k lt.
      let short : k < length ds = omega (arith, lt, each-length test 0 ds) in
      let at = each-at test 0 ds k no_values short ∙ ap (λ (j : ℕ). passing (test j) (domain_at ds k)) (let e : 0 + k ≡ k = omega arith in e) in
      subst (λ (d : Domain). Holds d (get_or p k 0)) (sym at) (passing_holds (test k) (domain_at ds k) (get_or p k 0) (lies.held k short) (all k short));
}

-- the rows of a certificate that has a total are there
rows_there : (program : Program) (ds : List Domain) (cert : Cert) → has_total program ds cert ≡ true → All (λ m. m.row < length program.rows) cert.mults
rows_there program ds cert e =
    let fit = (and_parts (is_fit (length program.rows) cert) (list_all (λ (domain : Domain). ltb 0 (count_of domain)) ds) e).0 in
    let fits = (and_parts (leb cert.scale 1048576 && leb (length cert.mults) 50000) (are_fit (length program.rows) 0 cert.mults) fit).1 in
    let all = fit_all (length program.rows) 0 cert.mults fits in
    λ k d lt. (all k d lt).row

by_total : (program : Program) (ds : List Domain) (cert : Cert) (floor : ℤ) (p : List ℕ) → has_total program ds cert ≡ true → LiesIn ds p → All (IsKept p) program.rows → LiesIn (each_passing (may_exceed program ds cert floor) 0 ds) p ⊎ (value_of program p ≤ℤ floor)
by_total program ds cert floor p e lies kept =
    ⊎_elim
    (λ (all : (k : ℕ) → k < length ds → may_exceed program ds cert floor k (get_or p k 0) ≡ true). inl (lies_passing (may_exceed program ds cert floor) ds p lies all))
    (λ (some : (k : ℕ) × (k < length ds) × (may_exceed program ds cert floor k (get_or p k 0) ≡ false)).
    inr (at_most_floor program ds cert floor p some.0 (rows_there program ds cert e) lies kept some.1 some.2))
    (decided (λ k. may_exceed program ds cert floor k (get_or p k 0)) (length ds))

-- what a trim leaves, with a total and without one
pub trimmed_with : (program : Program) (ds : List Domain) (cert : Cert) (floor : ℤ) → has_total program ds cert ≡ true → trimmed program ds cert floor ≡ each_passing (may_exceed program ds cert floor) 0 ds
unfolding trimmed
trimmed_with program ds cert floor e = cond-true (has_total program ds cert) (each_passing (may_exceed program ds cert floor) 0 ds) ds e

pub trimmed_without : (program : Program) (ds : List Domain) (cert : Cert) (floor : ℤ) → has_total program ds cert ≡ false → trimmed program ds cert floor ≡ ds
unfolding trimmed
trimmed_without program ds cert floor e = cond-false (has_total program ds cert) (each_passing (may_exceed program ds cert floor) 0 ds) ds e

-- a point that keeps the rows is left, or worth at most the floor
pub trimmed_keeps : (program : Program) (ds : List Domain) (cert : Cert) (floor : ℤ) (p : List ℕ) → has_total program ds cert ≡ true → LiesIn ds p → All (IsKept p) program.rows → LiesIn (trimmed program ds cert floor) p ⊎ (value_of program p ≤ℤ floor)
trimmed_keeps program ds cert floor p e lies kept =
    subst (λ (xs : List Domain). LiesIn xs p ⊎ (value_of program p ≤ℤ floor)) (sym (trimmed_with program ds cert floor e)) (by_total program ds cert floor p e lies kept)

-- each slot has a normal domain afterwards
pub trimmed_length : (program : Program) (ds : List Domain) (cert : Cert) (floor : ℤ) → length (trimmed program ds cert floor) ≡ length ds
unfolding trimmed
trimmed_length program ds cert floor = step (has_total program ds cert)
  where
    step : (b : Bool) → length (cond b (each_passing (may_exceed program ds cert floor) 0 ds) ds) ≡ length ds
    step true = each-length (may_exceed program ds cert floor) 0 ds
    step false = refl

pub trimmed_normal : (program : Program) (ds : List Domain) (cert : Cert) (floor : ℤ) → All IsNormal ds → All IsNormal (trimmed program ds cert floor)
unfolding trimmed
trimmed_normal program ds cert floor n = step (has_total program ds cert)
  where
    step : (b : Bool) → All IsNormal (cond b (each_passing (may_exceed program ds cert floor) 0 ds) ds)
    step true = each-normal (may_exceed program ds cert floor) 0 ds n
    step false = n

-- the test and what it says
pub true_at_most : (a b : ℤ) → int_le a b ≡ true → a ≤ℤ b
true_at_most a b e = grind (arith, ints)

pub at_most_true : (a b : ℤ) → a ≤ℤ b → int_le a b ≡ true
at_most_true a b h = grind (arith, ints)

-- no points are gained
pub trimmed_fewer : (program : Program) (ds : List Domain) (cert : Cert) (floor : ℤ) → All IsNormal ds → points_of (trimmed program ds cert floor) ≤ points_of ds
unfolding trimmed
trimmed_fewer program ds cert floor n = step (has_total program ds cert)
  where
    step : (b : Bool) → points_of (cond b (each_passing (may_exceed program ds cert floor) 0 ds) ds) ≤ points_of ds
    step true = each-fewer (may_exceed program ds cert floor) 0 ds n
    step false = omega arith
