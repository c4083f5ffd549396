-- The greatest of a function over values.
use Rattle.std.proofs.Common.{◌≡◌, ℕ, true, ◌<ℤ◌, ◌+◌, ◌<◌, ◌≤◌, List, [], ◌∷◌, length, map, refl, sym, ap, ◌∙◌, subst, inl, inr, arith, ℤ, pos, ◌+ℤ◌, ◌≤ℤ◌, fold}
use Rattle.std.specs.Int.{int_max}
use Rattle.std.specs.List.{Contains}
use Rattle.std.proofs.lemmas.Int.{ints, fold-int_max_bounds, fold-int_max_reached}
use Rattle.row_kit.specs.declared.domain.Domain.{Domain}
use Rattle.row_kit.specs.Domain.{values_of}
use Rattle.row_kit.proofs.Domains.{Holds-from_values, values-from_Holds}
use Rattle.row_kit.proofs.Values.{at_each, reached_at, by_value, in_range}
use Rattle.dual_bound.specs.Total.{greatest, slots_total}

-- each is at most the greatest
pub greatest_bound : (f : ℕ → ℤ) (vs : List ℕ) (w : ℕ) → Contains vs w → f w ≤ℤ greatest f vs
greatest_bound f [] w c = absurd (omega (arith, c.1))
greatest_bound f (v ∷ vs) w c =
    let most = greatest f (v ∷ vs) in
    let b = fold-int_max_bounds (f v) (map f vs) most refl in
    at_each (λ x. x ≤ℤ most) f v vs w c b.0 b.1

-- a bound that is reached is the greatest
pub greatest_is : (f : ℕ → ℤ) (vs : List ℕ) (r : ℤ) (w : ℕ) → Contains vs w → f w ≡ r → ((v : ℕ) → Contains vs v → f v ≤ℤ r) → greatest f vs ≡ r
greatest_is f [] r w c e h = absurd (omega (arith, c.1))
greatest_is f (v ∷ vs) r w c e h =
    let at = reached_at f v vs (greatest f (v ∷ vs)) (fold-int_max_reached (f v) (map f vs) (greatest f (v ∷ vs)) refl) in
    omega (arith, ints, at.2, h at.0 at.1, e, greatest_bound f (v ∷ vs) w c)

map_same : (f g : ℕ → ℤ) → ((v : ℕ) → f v ≡ g v) → (vs : List ℕ) → map f vs ≡ map g vs
map_same f g h [] = refl
map_same f g h (v ∷ vs) = ap (λ (x : ℤ). x ∷ map f vs) (h v) ∙ ap (λ (xs : List ℤ). g v ∷ xs) (map_same f g h vs)

pub greatest_same : (f g : ℕ → ℤ) → ((v : ℕ) → f v ≡ g v) → (vs : List ℕ) → greatest f vs ≡ greatest g vs
greatest_same f g h [] = refl
greatest_same f g h (v ∷ vs) = ap (λ (x : ℤ). fold int_max x (map f vs)) (h v) ∙ ap (fold int_max (g v)) (map_same f g h vs)

-- two functions that agree below a bound have one total over slots below it
pub slots_total_same : (f g : ℕ → ℕ → ℤ) (n : ℕ) → ((slot v : ℕ) → slot < n → f slot v ≡ g slot v) → (ds : List Domain) (i : ℕ) → i + length ds ≤ n → slots_total f i ds ≡ slots_total g i ds
slots_total_same f g n h [] i le = refl
slots_total_same f g n h (d ∷ ds) i le =
    ap (λ (x : ℤ). x +ℤ slots_total f (i + 1) ds) (greatest_same (f i) (g i) (λ v. h i v (omega arith)) (values_of d))
    ∙ ap (λ (x : ℤ). greatest (g i) (values_of d) +ℤ x) (slots_total_same f g n h ds (i + 1) (omega arith))

-- a bound at 0 and along the range bounds each value
each_below : (f : ℕ → ℤ) (d : Domain) (r : ℤ) → 1 ≤ d.lo → (d.zero ≡ true → f 0 ≤ℤ r) → ((v : ℕ) → d.lo ≤ v → v ≤ d.hi → f v ≤ℤ r) → (v : ℕ) → Contains (values_of d) v → f v ≤ℤ r
each_below f d r low at_zero above v c =
    elim (by_value d v (Holds-from_values d v low c)) [ inl none ↦ subst (λ (x : ℕ). f x ≤ℤ r) (sym none.0) (at_zero none.1) | inr some ↦ above v some.1 some.2 ]

-- the greatest is at the best value of the range, unless 0 is held and better
pub best_in_range : (f : ℕ → ℤ) (d : Domain) (w : ℕ) → 1 ≤ d.lo → d.lo ≤ w → w ≤ d.hi → ((v : ℕ) → d.lo ≤ v → v ≤ d.hi → f v ≤ℤ f w) → (d.zero ≡ true → f 0 ≤ℤ f w) → greatest f (values_of d) ≡ f w
best_in_range f d w low in_lo in_hi best zero_below =
    greatest_is f (values_of d) (f w) w (values-from_Holds d w (in_range d w low in_lo in_hi)) refl
    (each_below f d (f w) low zero_below best)

pub best_at_zero : (f : ℕ → ℤ) (d : Domain) (w : ℕ) → 1 ≤ d.lo → d.zero ≡ true → f 0 ≡ pos 0 → ((v : ℕ) → d.lo ≤ v → v ≤ d.hi → f v ≤ℤ f w) → f w <ℤ pos 0 → greatest f (values_of d) ≡ pos 0
best_at_zero f d w low held none best less =
    greatest_is f (values_of d) (pos 0) 0 (values-from_Holds d 0 (record { at_zero = λ _. held; above_zero = λ p. absurd (omega arith) })) none
    (each_below f d (pos 0) low (λ _. omega (arith, ints, none)) (λ v l h. omega (arith, ints, best v l h, less)))
