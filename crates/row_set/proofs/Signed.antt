-- Products of signed numbers.
use Rattle.std.proofs.Common.{◌≡◌, ℕ, zero, suc, ◌+◌, ◌*◌, List, [], ◌∷◌, ap, ap₂, ◌∙◌, arith, ℤ, pos, ◌+ℤ◌, ◌-ℤ◌, ◌*ℤ◌}
use Rattle.std.proofs.lemmas.Int.{ints}
use Rattle.std.proofs.Math.IntN.{suc_ℤ-*ℤ, zero-*ℤ, *ℤ-zero, *ℤ_comm}
use Rattle.stn_model.specs.Sums.{total}
use Rattle.plain_plan.proofs.Linear.{times-parts}

-- a product with a sum and a difference
pub times-add : (c x y : ℤ) → c *ℤ (x +ℤ y) ≡ (c *ℤ x) +ℤ (c *ℤ y)
times-add c x y =
    let parts = times-parts c (x +ℤ y) (pos 0) x y (omega (arith, ints)) in
    omega (arith, ints, parts, *ℤ-zero c)

pub times-sub : (c x y : ℤ) → c *ℤ (x -ℤ y) ≡ (c *ℤ x) -ℤ (c *ℤ y)
times-sub c x y =
    let parts = times-parts c (x -ℤ y) y x (pos 0) (omega (arith, ints)) in
    omega (arith, ints, parts, *ℤ-zero c)

-- a product with one more
pub times-suc : (c : ℤ) (n : ℕ) → c *ℤ pos (suc n) ≡ (c *ℤ pos n) +ℤ c
times-suc c n = *ℤ_comm c (pos (suc n)) ∙ suc_ℤ-*ℤ (pos n) c ∙ ap (λ x. x +ℤ c) (*ℤ_comm (pos n) c)

-- a product with a sum of numbers that are not negative
pub times-plus : (c : ℤ) (m n : ℕ) → c *ℤ pos (m + n) ≡ (c *ℤ pos m) +ℤ (c *ℤ pos n)
times-plus c m n = times-add c (pos m) (pos n)

-- a number of parts, each of which counts the price less what L steps cost
pub parts-worth : (a l : ℕ) (p h : ℤ) → pos a *ℤ (p -ℤ (h *ℤ pos l)) ≡ (p *ℤ pos a) -ℤ (h *ℤ pos (a * l))
parts-worth zero l p h =
    let e : zero * l ≡ 0 = omega arith in
    omega (arith, ints, zero-*ℤ (p -ℤ (h *ℤ pos l)), *ℤ-zero p, *ℤ-zero h, ap (λ n. h *ℤ pos n) e)
parts-worth (suc a) l p h =
    let e : suc a * l ≡ a * l + l = omega arith in
    omega (arith, ints, suc_ℤ-*ℤ (pos a) (p -ℤ (h *ℤ pos l)), parts-worth a l p h, times-suc p a, ap (λ n. h *ℤ pos n) e, times-plus h (a * l) l)

-- the parts of v quanta
pub quanta-parts : (v a : ℕ) (x : ℤ) → pos (v * a) *ℤ x ≡ (pos a *ℤ x) *ℤ pos v
quanta-parts zero a x =
    let e : zero * a ≡ 0 = omega arith in
    omega (arith, ints, ap (λ n. pos n *ℤ x) e, zero-*ℤ x, *ℤ-zero (pos a *ℤ x))
quanta-parts (suc v) a x =
    let e : suc v * a ≡ v * a + a = omega arith in
    let split : pos (v * a + a) *ℤ x ≡ (pos (v * a) *ℤ x) +ℤ (pos a *ℤ x) =
    *ℤ_comm (pos (v * a + a)) x ∙ times-plus x (v * a) a ∙ ap₂ (λ m n. m +ℤ n) (*ℤ_comm x (pos (v * a))) (*ℤ_comm x (pos a)) in
    omega (arith, ints, ap (λ n. pos n *ℤ x) e, split, quanta-parts v a x, times-suc (pos a *ℤ x) v)

-- the same of a price
pub quanta-price : (v n : ℕ) (c : ℤ) → c *ℤ pos (v * n) ≡ (c *ℤ pos n) *ℤ pos v
quanta-price v n c = *ℤ_comm c (pos (v * n)) ∙ quanta-parts v n c ∙ ap (λ m. m *ℤ pos v) (*ℤ_comm (pos n) c)

-- multiples of a sum, of a difference and of nothing
pub scale-add : (x y v : ℤ) → (x +ℤ y) *ℤ v ≡ (x *ℤ v) +ℤ (y *ℤ v)
scale-add x y v = *ℤ_comm (x +ℤ y) v ∙ times-add v x y ∙ ap₂ (λ a b. a +ℤ b) (*ℤ_comm v x) (*ℤ_comm v y)

pub scale-sub : (x y v : ℤ) → (x -ℤ y) *ℤ v ≡ (x *ℤ v) -ℤ (y *ℤ v)
scale-sub x y v = *ℤ_comm (x -ℤ y) v ∙ times-sub v x y ∙ ap₂ (λ a b. a -ℤ b) (*ℤ_comm v x) (*ℤ_comm v y)

pub total-scale : {X : Type 0} (f : X → ℤ) (v : ℤ) (xs : List X) → total f xs *ℤ v ≡ total (λ x. f x *ℤ v) xs
total-scale f v [] = zero-*ℤ v
total-scale f v (x ∷ xs) = scale-add (f x) (total f xs) v ∙ ap (λ n. (f x *ℤ v) +ℤ n) (total-scale f v xs)
