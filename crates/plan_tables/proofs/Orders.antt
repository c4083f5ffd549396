-- Batches in order: unit by unit and period by period, each of them once.
use Rattle.std.proofs.Common.{◌≡◌, ℕ, zero, suc, ◌+◌, List, [], ◌∷◌, ◌++◌, length, refl, ap, sym, ◌∙◌, subst, arith, Bool, true, false, cond, eqb, ltb, inl, inr, append_assoc, ◌&&◌}
use Rattle.std.specs.Prelude.{All, not, filter}
use Rattle.std.specs.List.{flat_map, range_with_len}
use Rattle.std.specs.List.Sorted.{IsPermutation}
use Rattle.std.proofs.lemmas.Bool.{cases_Bool, eqb-true, lt-ltb, le-ltb}
use Rattle.std.proofs.lemmas.Bool.Decides.{nat_tests}
use Rattle.std.proofs.lemmas.List.{flat_map_more}
use Rattle.std.proofs.lemmas.List.Concat.{flat_map-append}
use Rattle.std.proofs.lemmas.List.Elements.{All-nil, All-append, All-filter, All-head, All-tail, filter_agree, filter_passes}
use Rattle.std.proofs.lemmas.List.Sorted.{IsPermutation-refl, IsPermutation-append, IsPermutation-append_left, IsPermutation-trans, IsPermutation-filter_both}
use Rattle.stn_model.specs.declared.plant.Plant.{Plant}
use Rattle.stn_model.specs.declared.start.Start.{Start}
use Rattle.stn_model.specs.Fits.{Fits}
use Rattle.stn_model.specs.Sound.{Sound}
use Rattle.stn_model.proofs.Fitting.{ends_later, fit_parts, placed-Fits}
use Rattle.plan_tables.specs.Batches.{is_on, on_unit, starting, by_period, unit_order, in_order, line_among, batch_line, EachOnce}
use Rattle.plan_tables.proofs.Ranges.{range_next}

filter_filter : {X : Type 0} (p q : X → Bool) (xs : List X) → filter p (filter q xs) ≡ filter (λ x. q x && p x) xs
filter_filter p q [] = refl
filter_filter p q (x ∷ xs) = elim (cases_Bool (q x)) [
  | inl e ↦ rw e (ap (λ ys. cond (p x) (x ∷ ys) ys) (filter_filter p q xs))
  | inr e ↦ rw e (filter_filter p q xs)
]

filter_all : {X : Type 0} (p : X → Bool) (xs : List X) → All (λ x. p x ≡ true) xs → filter p xs ≡ xs
filter_all p [] h = refl
filter_all p (x ∷ xs) h = rw (All-head (λ y. p y ≡ true) x xs h) (ap (λ ys. x ∷ ys) (filter_all p xs (All-tail (λ y. p y ≡ true) x xs h)))

filter_none : {X : Type 0} (p : X → Bool) (xs : List X) → ((x : X) → p x ≡ false) → filter p xs ≡ []
filter_none p [] h = refl
filter_none p (x ∷ xs) h = rw (h x) (filter_none p xs h)

below_both : (k n : ℕ) → (ltb k (n + 1) && ltb k n) ≡ ltb k n
below_both k n = grind (arith, nat_tests)

below_here : (k n : ℕ) → (ltb k (n + 1) && not (ltb k n)) ≡ eqb k n
below_here k n = grind (arith, nat_tests)

pub pieces_more : {A : Type 0} (f : ℕ → List A) (n : ℕ) → flat_map f (range_with_len 0 (n + 1)) ≡ flat_map f (range_with_len 0 n) ++ f n
pieces_more f n = ap (flat_map f) (range_next n) ∙ sym (flat_map_more f [] (range_with_len 0 n) n)

grouped_more : {X : Type 0} (key : X → ℕ) (xs : List X) (n : ℕ) → IsPermutation (filter (λ x. ltb (key x) n) xs) (flat_map (λ k. filter (λ x. eqb (key x) k) xs) (range_with_len 0 n))
    → IsPermutation (filter (λ x. ltb (key x) (n + 1)) xs) (flat_map (λ k. filter (λ x. eqb (key x) k) xs) (range_with_len 0 (n + 1)))
grouped_more {X} key xs n before =
    let of : ℕ → List X = λ k. filter (λ x. eqb (key x) k) xs in
    let less : X → Bool = λ x. ltb (key x) n in
    let most : List X = filter (λ x. ltb (key x) (n + 1)) xs in
    let low : filter less most ≡ filter less xs = filter_filter less (λ x. ltb (key x) (n + 1)) xs ∙ filter_agree (λ x. ltb (key x) (n + 1) && less x) less (λ x. below_both (key x) n) xs in
    let here : filter (λ x. not (less x)) most ≡ of n = filter_filter (λ x. not (less x)) (λ x. ltb (key x) (n + 1)) xs ∙ filter_agree (λ x. ltb (key x) (n + 1) && not (less x)) (λ x. eqb (key x) n) (λ x. below_here (key x) n) xs in
    let both : IsPermutation most (filter less most ++ filter (λ x. not (less x)) most) = IsPermutation-filter_both less (λ x. not (less x)) (λ x. refl) most in
    let parts : IsPermutation most (filter less xs ++ of n) = subst (λ (ys : List X). IsPermutation most (ys ++ of n)) low (subst (λ (ys : List X). IsPermutation most (filter less most ++ ys)) here both) in
    let joined : IsPermutation most (flat_map of (range_with_len 0 n) ++ of n) = IsPermutation-trans most (filter less xs ++ of n) (flat_map of (range_with_len 0 n) ++ of n) parts (IsPermutation-append_left (of n) (filter less xs) (flat_map of (range_with_len 0 n)) before) in
    subst (λ (ys : List X). IsPermutation most ys) (sym (pieces_more of n)) joined

-- the items whose number is below n, one number after another
grouped : {X : Type 0} (key : X → ℕ) (xs : List X) (n : ℕ) → IsPermutation (filter (λ x. ltb (key x) n) xs) (flat_map (λ k. filter (λ x. eqb (key x) k) xs) (range_with_len 0 n))
grouped {X} key xs zero =
    let none : filter (λ x. ltb (key x) 0) xs ≡ [] = filter_none (λ x. ltb (key x) 0) xs (λ x. le-ltb (key x) 0 (omega arith)) in
    subst (λ (ys : List X). IsPermutation ys []) (sym none) (IsPermutation-refl [])
grouped {X} key xs (suc n) =
    let e : n + 1 ≡ suc n = omega arith in
    subst (λ (m : ℕ). IsPermutation (filter (λ x. ltb (key x) m) xs) (flat_map (λ k. filter (λ x. eqb (key x) k) xs) (range_with_len 0 m))) e (grouped_more key xs n (grouped key xs n))

-- all items, where each has a number below n
pub all_grouped : {X : Type 0} (key : X → ℕ) (xs : List X) (n : ℕ) → All (λ x. ltb (key x) n ≡ true) xs → IsPermutation xs (flat_map (λ k. filter (λ x. eqb (key x) k) xs) (range_with_len 0 n))
all_grouped {X} key xs n h =
    subst (λ (ys : List X). IsPermutation ys (flat_map (λ k. filter (λ x. eqb (key x) k) xs) (range_with_len 0 n))) (filter_all (λ x. ltb (key x) n) xs h) (grouped key xs n)

permuted_pieces : {A : Type 0} (f g : ℕ → List A) (ks : List ℕ) → ((k : ℕ) → IsPermutation (f k) (g k)) → IsPermutation (flat_map f ks) (flat_map g ks)
permuted_pieces f g [] h = IsPermutation-refl []
permuted_pieces f g (k ∷ ks) h = IsPermutation-append (f k) (g k) (flat_map f ks) (flat_map g ks) (h k) (permuted_pieces f g ks h)

periods_below : (plant : Plant) (plan : List Start) → Sound plant → All (Fits plant) plan → All (λ start. ltb start.period plant.periods ≡ true) plan
periods_below plant plan sound fits k d h = lt-ltb _ _ (omega (arith, ends_later plant _ sound (fits k d h), (fit_parts plant _ (fits k d h)).ends))

pub units_below : (plant : Plant) (plan : List Start) → Sound plant → All (Fits plant) plan → All (λ start. ltb start.unit (length plant.units) ≡ true) plan
units_below plant plan sound fits k d h = lt-ltb _ _ (placed-Fits plant _ sound (fits k d h)).unit

-- where all starts fit, the batches in order are those of the plan, each once
pub each_once : (plant : Plant) (plan : List Start) → Sound plant → All (Fits plant) plan → EachOnce plant plan
unfolding by_period
each_once plant plan sound fits =
    let units : List ℕ = range_with_len 0 (length plant.units) in
    let inner : (unit : ℕ) → IsPermutation (on_unit plan unit) (unit_order plant plan unit) = λ unit. all_grouped (λ (start : Start). start.period) (on_unit plan unit) plant.periods (All-filter (is_on unit) (λ start. ltb start.period plant.periods ≡ true) plan (periods_below plant plan sound fits)) in
    IsPermutation-trans plan (flat_map (on_unit plan) units) (in_order plant plan)
    (all_grouped (λ (start : Start). start.unit) plan (length plant.units) (units_below plant plan sound fits))
    (permuted_pieces (on_unit plan) (unit_order plant plan) units inner)

All-flat_map : {A : Type 0} (P : A → Type 0) (f : ℕ → List A) (ks : List ℕ) → ((k : ℕ) → All P (f k)) → All P (flat_map f ks)
All-flat_map P f [] h = All-nil P
All-flat_map P f (k ∷ ks) h = All-append P (f k) (flat_map f ks) (h k) (All-flat_map P f ks h)

flat_map_agree : {X A : Type 0} (P : X → Type 0) (f g : X → List A) (xs : List X) → ((x : X) → P x → f x ≡ g x) → All P xs → flat_map f xs ≡ flat_map g xs
flat_map_agree P f g [] h all = refl
flat_map_agree P f g (x ∷ xs) h all = ap (λ ys. ys ++ flat_map f xs) (h x (All-head P x xs all)) ∙ ap (λ ys. g x ++ ys) (flat_map_agree P f g xs h (All-tail P x xs all))

-- the lines of a unit's batches, among these
pub unit_lines : (plant : Plant) (plan : List Start) (unit : ℕ) → flat_map (line_among plant (on_unit plan unit)) (unit_order plant plan unit) ≡ flat_map (batch_line plant plan) (unit_order plant plan unit)
unfolding by_period
unit_lines plant plan unit =
    flat_map_agree (λ (b : Start). eqb b.unit unit ≡ true) (line_among plant (on_unit plan unit)) (batch_line plant plan) (unit_order plant plan unit)
    (λ b e. ap (λ (u : ℕ). line_among plant (on_unit plan u) b) (sym (eqb-true b.unit unit e)))
    (All-flat_map (λ (b : Start). eqb b.unit unit ≡ true) (starting (on_unit plan unit)) (range_with_len 0 plant.periods)
    (λ period. All-filter (λ (start : Start). eqb start.period period) (λ (b : Start). eqb b.unit unit ≡ true) (on_unit plan unit) (filter_passes (is_on unit) plan)))

-- a text that had the lines of the units below n, and gets those of n
pub lines_next : {X A : Type 0} (line : X → List A) (order : ℕ → List X) (old text new : List A) (n : ℕ) → text ≡ old ++ flat_map line (flat_map order (range_with_len 0 n)) → new ≡ text ++ flat_map line (order n) → new ≡ old ++ flat_map line (flat_map order (range_with_len 0 (n + 1)))
lines_next line order old text new n before more =
    more ∙ ap (λ xs. xs ++ flat_map line (order n)) before ∙ append_assoc old (flat_map line (flat_map order (range_with_len 0 n))) (flat_map line (order n))
    ∙ ap (λ xs. old ++ xs) (sym (ap (flat_map line) (pieces_more order n) ∙ flat_map-append line (flat_map order (range_with_len 0 n)) (order n)))
