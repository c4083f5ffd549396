-- Comparisons of totals with the number after a floor.
use Rattle.std.proofs.Common.{◌≡◌, ℕ, zero, suc, ◌+◌, ◌<◌, ◌≤◌, ◌^◌, sym, ap, ◌∙◌, arith, ℤ, pos, neg_ℤ, ◌+ℤ◌, ◌-ℤ◌, ◌*ℤ◌, ◌≤ℤ◌, ◌<ℤ◌, unsigned_abs, to_z, of_z}
use Rattle.std.specs.Prelude.{int_le}
use Rattle.std.proofs.lemmas.Int.{ints, by_lt_z}
use Rattle.std.proofs.Math.IntN.{suc_ℤ-*ℤ, zero-*ℤ, *ℤ-zero}
use Rattle.dual_bound.proofs.Signed.{mul_le}
use mir.Syntax.{w128}

more_than : (n : ℕ) (b : ℤ) → pos 0 ≤ℤ b → b ≤ℤ (pos (suc n) *ℤ b)
more_than n b h = omega (arith, ints, suc_ℤ-*ℤ (pos n) b, mul_le n (pos 0) b h, *ℤ-zero (pos n))

less_than : (n : ℕ) (b : ℤ) → b ≤ℤ pos 0 → (pos (suc n) *ℤ b) ≤ℤ b
less_than n b h = omega (arith, ints, suc_ℤ-*ℤ (pos n) b, mul_le n b (pos 0) h, *ℤ-zero (pos n))

both_above : (a b x : ℤ) → x <ℤ a → x <ℤ b → int_le a x ≡ int_le b x
both_above a b x h k = grind (arith, ints)

both_below : (a b x : ℤ) → a ≤ℤ x → b ≤ℤ x → int_le a x ≡ int_le b x
both_below a b x h k = grind (arith, ints)

far_above : (n : ℕ) (a x : ℤ) → pos (2 ^ 106) ≤ℤ a → unsigned_abs x < 2 ^ 105 → x <ℤ (pos (suc n) *ℤ (a +ℤ pos 1))
far_above n a x h small = omega (arith, ints, small, h, more_than n (a +ℤ pos 1) (omega (arith, ints, h)))

far_below : (n : ℕ) (a x : ℤ) → a ≤ℤ neg_ℤ (pos (2 ^ 106)) → unsigned_abs x < 2 ^ 105 → (pos (suc n) *ℤ (a +ℤ pos 1)) ≤ℤ x
far_below n a x h small = omega (arith, ints, small, h, less_than n (a +ℤ pos 1) (omega (arith, ints, h)))

le_of : (a b : ℤ) → a ≡ b → a ≤ℤ b
le_of a b e = omega (arith, ints)

le_from : (a b : ℤ) → a ≡ b → b ≤ℤ a
le_from a b e = omega (arith, ints)

within : (a : ℤ) → (a ≤ℤ pos (2 ^ 106)) → (neg_ℤ (pos (2 ^ 106)) ≤ℤ a) → unsigned_abs a ≤ 2 ^ 106
within a h k = omega (arith, ints)

weak : (a b : ℤ) → a <ℤ b → a ≤ℤ b
weak a b h = omega (arith, ints)

-- a floor that is far off compares with each near number as the number that counts as it
pub near_same : (scale : ℕ) (floor near x : ℤ) → (pos (2 ^ 106) ≤ℤ floor → near ≡ pos (2 ^ 106)) → (floor ≤ℤ neg_ℤ (pos (2 ^ 106)) → near ≡ neg_ℤ (pos (2 ^ 106))) → (unsigned_abs floor ≤ 2 ^ 106 → near ≡ floor) → unsigned_abs x < 2 ^ 105 → int_le (pos scale *ℤ (floor +ℤ pos 1)) x ≡ int_le (pos scale *ℤ (near +ℤ pos 1)) x
near_same zero floor near x above below same small =
    ap (λ (y : ℤ). int_le y x) (zero-*ℤ (floor +ℤ pos 1) ∙ sym (zero-*ℤ (near +ℤ pos 1)))
near_same (suc n) floor near x above below same small =
    by_lt_z (pos (2 ^ 106)) floor
    (λ (more : pos (2 ^ 106) <ℤ floor).
    let h = weak (pos (2 ^ 106)) floor more in
    both_above (pos (suc n) *ℤ (floor +ℤ pos 1)) (pos (suc n) *ℤ (near +ℤ pos 1)) x (far_above n floor x h small) (far_above n near x (le_from near (pos (2 ^ 106)) (above h)) small))
    (λ (le : floor ≤ℤ pos (2 ^ 106)).
    by_lt_z floor (neg_ℤ (pos (2 ^ 106)))
    (λ (less : floor <ℤ neg_ℤ (pos (2 ^ 106))).
    let h = weak floor (neg_ℤ (pos (2 ^ 106))) less in
    both_below (pos (suc n) *ℤ (floor +ℤ pos 1)) (pos (suc n) *ℤ (near +ℤ pos 1)) x (far_below n floor x h small) (far_below n near x (le_of near (neg_ℤ (pos (2 ^ 106))) (below h)) small))
    (λ (ge : neg_ℤ (pos (2 ^ 106)) ≤ℤ floor). ap (λ (y : ℤ). int_le (pos (suc n) *ℤ (y +ℤ pos 1)) x) (sym (same (within floor le ge)))))

-- moving a total and a greatest gain to the other side
pub moved : (s t m g : ℤ) → int_le s ((t -ℤ m) +ℤ g) ≡ int_le ((s -ℤ t) +ℤ m) g
moved s t m g = grind (arith, ints)

pub with_small : (t m g : ℤ) → unsigned_abs t < 10 ^ 30 → unsigned_abs m ≤ 142000000000000000000000000 → unsigned_abs g ≤ 142000000000000000000000000 → unsigned_abs ((t -ℤ m) +ℤ g) < 2 ^ 105
with_small t m g a b c = omega (arith, ints)

-- a number of fewer bits is read as it was written
pub exact : (x : ℤ) → unsigned_abs x ≤ 2 ^ 126 + 2 ^ 121 → to_z w128 (of_z w128 x) ≡ x
exact x h = omega (arith, ints, h)
