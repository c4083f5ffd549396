-- The least of a function over values.
use Rattle.std.proofs.Common.{◌≡◌, ℕ, true, false, ◌<◌, ◌≤◌, List, [], ◌∷◌, length, map, refl, sym, ◌∙◌, subst, ⊎_elim, arith, ℤ, pos, ◌≤ℤ◌, ◌⊎◌}
use Rattle.std.specs.List.{Contains}
use Rattle.std.proofs.lemmas.Bool.{false≢true}
use Rattle.std.proofs.lemmas.Int.{ints, fold-int_min_bounds, fold-int_min_reached}
use Rattle.row_kit.specs.declared.domain.Domain.{Domain}
use Rattle.row_kit.specs.Domain.{Holds, count_of, values_of}
use Rattle.row_kit.proofs.Domains.{Holds-from_values, values-from_Holds, length-values_of}
use Rattle.row_kit.proofs.Values.{at_each, reached_at, by_value, in_range}
use Rattle.range_prop.specs.Cut.{least}

-- the least is at most the function at each value
pub least_bound : (f : ℕ → ℤ) (vs : List ℕ) (w : ℕ) → Contains vs w → least f vs ≤ℤ f w
least_bound f [] w c = absurd (omega (arith, c.1))
least_bound f (v ∷ vs) w c =
    let low = least f (v ∷ vs) in
    let b = fold-int_min_bounds (f v) (map f vs) low refl in
    at_each (λ x. low ≤ℤ x) f v vs w c b.0 b.1

-- some value is the least
least_at : (f : ℕ → ℤ) (vs : List ℕ) → 0 < length vs → (w : ℕ) × Contains vs w × (f w ≡ least f vs)
least_at f [] some = absurd (omega arith)
least_at f (v ∷ vs) some = reached_at f v vs (least f (v ∷ vs)) (fold-int_min_reached (f v) (map f vs) (least f (v ∷ vs)) refl)

-- a bound that is reached is the least
pub least_is : (f : ℕ → ℤ) (vs : List ℕ) (r : ℤ) (w : ℕ) → Contains vs w → f w ≡ r → ((v : ℕ) → Contains vs v → r ≤ℤ f v) → least f vs ≡ r
least_is f vs r w c e h =
    let at = least_at f vs (omega (arith, c.1)) in
    omega (arith, ints, at.2, h at.0 at.1, e, least_bound f vs w c)

-- over a domain: a bound that some value reaches
pub least_held : (f : ℕ → ℤ) (d : Domain) (r : ℤ) (w : ℕ) → 1 ≤ d.lo → Holds d w → f w ≡ r → ((v : ℕ) → Holds d v → r ≤ℤ f v) → least f (values_of d) ≡ r
least_held f d r w low held e h = least_is f (values_of d) r w (values-from_Holds d w held) e (λ v c. h v (Holds-from_values d v low c))

le_same : (a b c : ℤ) → a ≤ℤ b → c ≡ b → a ≤ℤ c
le_same a b c h e = omega (arith, ints)

le_le : (a b c : ℤ) → a ≤ℤ b → b ≤ℤ c → a ≤ℤ c
le_le a b c h k = omega (arith, ints)

-- the least over a domain without 0 is that of its range
pub least_range : (f : ℕ → ℤ) (d : Domain) (r : ℤ) → 1 ≤ d.lo → d.lo ≤ d.hi → d.zero ≡ false → ((v : ℕ) → d.lo ≤ v → v ≤ d.hi → r ≤ℤ f v) → (r ≡ f d.lo) ⊎ (r ≡ f d.hi) → r ≡ least f (values_of d)
least_range f d r low full bare bound reached =
    let each = λ (v : ℕ) (h : Holds d v). ⊎_elim (λ (z : (v ≡ 0) × (d.zero ≡ true)). absurd (false≢true (sym bare ∙ z.1))) (λ (z : (1 ≤ v) × (d.lo ≤ v) × (v ≤ d.hi)). bound v z.1 z.2) (by_value d v h) in
    ⊎_elim
    (λ (e : r ≡ f d.lo). sym (least_held f d r d.lo low (in_range d d.lo low (omega arith) full) (sym e) each))
    (λ (e : r ≡ f d.hi). sym (least_held f d r d.hi low (in_range d d.hi low full (omega arith)) (sym e) each))
    reached

-- the least over a domain with 0 is that of its range or that at 0
pub least_zero : (f : ℕ → ℤ) (d : Domain) (r m : ℤ) → 1 ≤ d.lo → d.lo ≤ d.hi → d.zero ≡ true → f 0 ≡ pos 0 → ((v : ℕ) → d.lo ≤ v → v ≤ d.hi → r ≤ℤ f v) → (r ≡ f d.lo) ⊎ (r ≡ f d.hi) → (m ≤ℤ r) × (m ≤ℤ pos 0) → (m ≡ r) ⊎ (m ≡ pos 0) → m ≡ least f (values_of d)
least_zero f d r m low full held none bound reached below either =
    let each = λ (v : ℕ) (h : Holds d v). ⊎_elim (λ (z : (v ≡ 0) × (d.zero ≡ true)). subst (λ (x : ℕ). m ≤ℤ f x) (sym z.0) (le_same m (pos 0) (f 0) below.1 none)) (λ (z : (1 ≤ v) × (d.lo ≤ v) × (v ≤ d.hi)). le_le m r (f v) below.0 (bound v z.1 z.2)) (by_value d v h) in
    ⊎_elim
    (λ (first : m ≡ r). ⊎_elim
    (λ (e : r ≡ f d.lo). sym (least_held f d m d.lo low (in_range d d.lo low (omega arith) full) (sym (first ∙ e)) each))
    (λ (e : r ≡ f d.hi). sym (least_held f d m d.hi low (in_range d d.hi low full (omega arith)) (sym (first ∙ e)) each))
    reached)
    (λ (second : m ≡ pos 0). sym (least_held f d m 0 low (record { at_zero = λ _. held; above_zero = λ p. absurd (omega arith) }) (none ∙ sym second) each))
    either

-- the most over a domain with 0
pub most_zero : (f : ℕ → ℤ) (d : Domain) (r m : ℤ) → f 0 ≡ pos 0 → ((v : ℕ) → d.lo ≤ v → v ≤ d.hi → f v ≤ℤ r) → (r ≤ℤ m) × (pos 0 ≤ℤ m) → (v : ℕ) → Holds d v → f v ≤ℤ m
most_zero f d r m none bound above v h =
    ⊎_elim (λ (z : (v ≡ 0) × (d.zero ≡ true)). subst (λ (x : ℕ). f x ≤ℤ m) (sym z.0) (le_of (f 0) m none above.1)) (λ (z : (1 ≤ v) × (d.lo ≤ v) × (v ≤ d.hi)). le_le (f v) r m (bound v z.1 z.2) above.0) (by_value d v h)
  where
    le_of : (a m : ℤ) → a ≡ pos 0 → pos 0 ≤ℤ m → a ≤ℤ m
    le_of a m e k = omega (arith, ints)

-- some value of a domain that holds one is the least
pub least_reached : (f : ℕ → ℤ) (d : Domain) → 1 ≤ d.lo → 0 < count_of d → (w : ℕ) × Holds d w × (f w ≡ least f (values_of d))
least_reached f d low some =
    let at = least_at f (values_of d) (omega (arith, some, length-values_of d)) in
    (at.0, Holds-from_values d at.0 low at.1, at.2)

-- a domain that holds a value is not empty
pub held_open : (d : Domain) (w : ℕ) → Holds d w → 0 < count_of d
held_open d w held = let c = values-from_Holds d w held in omega (arith, c.1, length-values_of d)

-- no value of a domain counts less than the least
pub least_below : (f : ℕ → ℤ) (d : Domain) (v : ℕ) → Holds d v → least f (values_of d) ≤ℤ f v
least_below f d v held = least_bound f (values_of d) v (values-from_Holds d v held)
