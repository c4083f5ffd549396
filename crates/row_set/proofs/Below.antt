-- Sums over the first numbers and over lists: split, exchanged, and cut to a window.
use Rattle.std.proofs.Common.{◌≡◌, ℕ, zero, suc, ◌+◌, ◌-◌, ◌*◌, ◌<◌, ◌≤◌, ◌==◌, ◌&&◌, nat_le, nat_lt, min, true, false, cond, List, [], ◌∷◌, sum_by, sym, refl, ap, ap₂, ◌∙◌, inl, inr, arith, ℤ, pos, ◌+ℤ◌, ◌-ℤ◌, ◌*ℤ◌}
use Rattle.std.specs.List.{All}
use Rattle.std.proofs.lemmas.Int.{ints}
use Rattle.std.proofs.Math.IntN.{*ℤ-zero}
use Rattle.std.proofs.lemmas.List.Elements.{All-head, All-tail}
use Rattle.std.proofs.lemmas.List.Sums.{sum_by-cons}
use Rattle.std.proofs.lemmas.Bool.{cond-true, cond-false, eq-eqb, ne_eqb, le-leb, lt-leb, lt-ltb, le-ltb, cases_eq, cases_lt}
use Rattle.stn_model.specs.Sums.{total, total_below}
use Rattle.stn_model.proofs.Totals.{total_below-agree}
use Rattle.row_set.proofs.Signed.{times-plus}

-- sums of equal terms
pub total-agree : {X : Type 0} (f g : X → ℤ) (xs : List X) → All (λ x. f x ≡ g x) xs → total f xs ≡ total g xs
total-agree f g [] h = refl
total-agree f g (x ∷ xs) h = ap₂ (λ a b. a +ℤ b) (All-head (λ y. f y ≡ g y) x xs h) (total-agree f g xs (All-tail (λ y. f y ≡ g y) x xs h))

-- the sum of sums and of differences
pub below-add : (f g : ℕ → ℤ) (n : ℕ) → total_below (λ k. f k +ℤ g k) n ≡ total_below f n +ℤ total_below g n
below-add f g zero = refl
below-add f g (suc n) = omega (arith, ints, below-add f g n)

pub below-sub : (f g : ℕ → ℤ) (n : ℕ) → total_below (λ k. f k -ℤ g k) n ≡ total_below f n -ℤ total_below g n
below-sub f g zero = refl
below-sub f g (suc n) = omega (arith, ints, below-sub f g n)

pub total-add : {X : Type 0} (f g : X → ℤ) (xs : List X) → total (λ x. f x +ℤ g x) xs ≡ total f xs +ℤ total g xs
total-add f g [] = refl
total-add f g (x ∷ xs) = omega (arith, ints, total-add f g xs)

pub total-sub : {X : Type 0} (f g : X → ℤ) (xs : List X) → total (λ x. f x -ℤ g x) xs ≡ total f xs -ℤ total g xs
total-sub f g [] = refl
total-sub f g (x ∷ xs) = omega (arith, ints, total-sub f g xs)

pub below-zero : (n : ℕ) → total_below (λ k. pos 0) n ≡ pos 0
below-zero zero = refl
below-zero (suc n) = omega (arith, ints, below-zero n)

-- sums over two ranges, and over a range and a list, in either order
pub below-turn : (f : ℕ → ℕ → ℤ) (m n : ℕ) → total_below (λ i. total_below (f i) n) m ≡ total_below (λ j. total_below (λ i. f i j) m) n
below-turn f zero n = sym (below-zero n)
below-turn f (suc m) n = ap (λ x. x +ℤ total_below (f m) n) (below-turn f m n) ∙ sym (below-add (λ j. total_below (λ i. f i j) m) (f m) n)

pub below-total : {X : Type 0} (f : ℕ → X → ℤ) (xs : List X) (n : ℕ) → total_below (λ i. total (f i) xs) n ≡ total (λ x. total_below (λ i. f i x) n) xs
below-total f [] n = below-zero n
below-total f (x ∷ xs) n = below-add (λ i. f i x) (λ i. total (f i) xs) n ∙ ap (λ y. total_below (λ i. f i x) n +ℤ y) (below-total f xs n)

-- the sum of what one number alone has
below-none : (c : ℕ → ℤ) (k n m : ℕ) → m ≤ k → total_below (λ s. c s *ℤ pos (cond (k == s) n 0)) m ≡ pos 0
below-none c k n zero l = refl
below-none c k n (suc m) l =
    let e : cond (k == m) n 0 ≡ 0 = cond-false {A = ℕ} (k == m) n 0 (ne_eqb k m (λ e. omega arith)) in
    omega (arith, ints, below-none c k n m (omega arith), ap (λ j. c m *ℤ pos j) e, *ℤ-zero (c m))

pub below-one : (c : ℕ → ℤ) (k n m : ℕ) → k < m → total_below (λ s. c s *ℤ pos (cond (k == s) n 0)) m ≡ c k *ℤ pos n
below-one c k n zero l = absurd (omega arith)
below-one c k n (suc m) l =
    elim (cases_eq k m) [
      | inl e ↦
          let here : cond (k == m) n 0 ≡ n = cond-true {A = ℕ} (k == m) n 0 (eq-eqb k m e) in
          let term : c m *ℤ pos (cond (k == m) n 0) ≡ c k *ℤ pos n = ap₂ (λ i j. c i *ℤ pos j) (sym e) here in
          omega (arith, ints, below-none c k n m (omega arith), term)
      | inr e ↦
          let here : cond (k == m) n 0 ≡ 0 = cond-false {A = ℕ} (k == m) n 0 (ne_eqb k m e) in
          omega (arith, ints, below-one c k n m (omega arith), ap (λ j. c m *ℤ pos j) here, *ℤ-zero (c m))
    ]

-- a sum over numbers of what each has of a list's items is a sum over the items
pub by_items : {X : Type 0} (c : ℕ → ℤ) (key f : X → ℕ) (xs : List X) (m : ℕ) → All (λ x. key x < m) xs →
    total_below (λ s. c s *ℤ pos (sum_by (λ x. cond (key x == s) (f x) 0) xs)) m ≡ total (λ x. c (key x) *ℤ pos (f x)) xs
by_items c key f [] m h = total_below-agree (λ s. c s *ℤ pos 0) (λ s. pos 0) m (λ s l. *ℤ-zero (c s)) ∙ below-zero m
by_items {X} c key f (x ∷ xs) m h =
    let own : ℕ → ℤ = λ s. c s *ℤ pos (cond (key x == s) (f x) 0) in
    let rest : ℕ → ℤ = λ s. c s *ℤ pos (sum_by (λ y. cond (key y == s) (f y) 0) xs) in
    total_below-agree (λ s. c s *ℤ pos (sum_by (λ y. cond (key y == s) (f y) 0) (x ∷ xs))) (λ s. own s +ℤ rest s) m
    (λ s l. ap (λ n. c s *ℤ pos n) (sum_by-cons (λ (y : X). cond (key y == s) (f y) 0) x xs) ∙ times-plus (c s) (cond (key x == s) (f x) 0) (sum_by (λ y. cond (key y == s) (f y) 0) xs))
    ∙ below-add own rest m
    ∙ ap₂ (λ a b. a +ℤ b) (below-one c (key x) (f x) m (All-head (λ y. key y < m) x xs h)) (by_items c key f xs m (All-tail (λ y. key y < m) x xs h))

-- a sum of equal terms from one number on
pub below-from : (c : ℤ) (n m k : ℕ) → total_below (λ t. c *ℤ pos (cond (nat_le m t) n 0)) k ≡ c *ℤ pos (n * (k - m))
below-from c n m zero = let e : n * (zero - m) ≡ 0 = ap (λ j. n * j) (let z : zero - m ≡ 0 = omega arith in z) ∙ (omega arith) in sym (ap (λ j. c *ℤ pos j) e ∙ *ℤ-zero c)
below-from c n m (suc k) =
    elim (cases_lt k m) [
      | inl l ↦
          let out : cond (nat_le m k) n 0 ≡ 0 = cond-false {A = ℕ} (nat_le m k) n 0 (lt-leb m k l) in
          let same : suc k - m ≡ k - m = omega arith in
          omega (arith, ints, below-from c n m k, ap (λ j. c *ℤ pos j) out, *ℤ-zero c, ap (λ j. c *ℤ pos (n * j)) same)
      | inr l ↦
          let here : cond (nat_le m k) n 0 ≡ n = cond-true {A = ℕ} (nat_le m k) n 0 (le-leb m k l) in
          let same : suc k - m ≡ (k - m) + 1 = omega arith in
          let more : n * ((k - m) + 1) ≡ n * (k - m) + n = omega arith in
          omega (arith, ints, below-from c n m k, ap (λ j. c *ℤ pos j) here, ap (λ j. c *ℤ pos (n * j)) same, ap (λ j. c *ℤ pos j) more, times-plus c (n * (k - m)) n)
    ]

-- a sum of terms that are there in a window only
pub below-window : (f : ℕ → ℤ) (p d n : ℕ) → total_below (λ t. cond (nat_le p t && nat_lt t (p + d)) (f (t - p)) (pos 0)) n ≡ total_below f (min (n - p) d)
below-window f p d zero = let e : min (zero - p) d ≡ 0 = omega arith in sym (ap (total_below f) e)
below-window f p d (suc n) =
    let ih = below-window f p d n in
    elim (cases_lt n p) [
      | inl l ↦
          let out : (nat_le p n && nat_lt n (p + d)) ≡ false = ap (λ b. b && nat_lt n (p + d)) (lt-leb p n l) in
          let same : min (suc n - p) d ≡ min (n - p) d = omega arith in
          ap₂ (λ x y. x +ℤ y) ih (cond-false (nat_le p n && nat_lt n (p + d)) (f (n - p)) (pos 0) out) ∙ (omega (arith, ints)) ∙ sym (ap (total_below f) same)
      | inr l ↦ elim (cases_lt n (p + d)) [
        | inl k ↦
            let here : (nat_le p n && nat_lt n (p + d)) ≡ true = ap₂ (λ a b. a && b) (le-leb p n l) (lt-ltb n (p + d) k) in
            let before : min (n - p) d ≡ n - p = omega arith in
            let after : min (suc n - p) d ≡ suc (n - p) = omega arith in
            ap₂ (λ x y. x +ℤ y) (ih ∙ ap (total_below f) before) (cond-true (nat_le p n && nat_lt n (p + d)) (f (n - p)) (pos 0) here) ∙ sym (ap (total_below f) after)
        | inr k ↦
            let out : (nat_le p n && nat_lt n (p + d)) ≡ false = ap₂ (λ a b. a && b) (le-leb p n l) (le-ltb n (p + d) k) in
            let same : min (suc n - p) d ≡ min (n - p) d = omega arith in
            ap₂ (λ x y. x +ℤ y) ih (cond-false (nat_le p n && nat_lt n (p + d)) (f (n - p)) (pos 0) out) ∙ (omega (arith, ints)) ∙ sym (ap (total_below f) same)
      ]
    ]
