-- Where spans stand: their frames hold the pixel of a period in a row exactly where they last over it in that row.
use Rattle.std.proofs.Common.{◌≡◌, ℕ, ◌+◌, ◌-◌, ◌*◌, ◌<◌, ◌≤◌, min, Bool, true, false, ◌&&◌, ◌==◌, inl, inr, nat_le, nat_lt, arith, refl, sym, ap}
use Rattle.std.proofs.Math.Nat.{mul-le-mul_right, le_of_mul-le-mul_right, add-mul}
use Rattle.std.proofs.lemmas.Bool.{cases_lt, leb-true, ltb-true, le-leb, lt-ltb, and_from, and_parts, eqb-true, eq-eqb}

-- two tests that are true together are the same
same_bool : (x y : Bool) → (x ≡ true → y ≡ true) → (y ≡ true → x ≡ true) → x ≡ y
same_bool true y f g = sym (f refl)
same_bool false true f g = g refl
same_bool false false f g = refl

-- a place is at most another where it stands no further right
left_of : (a p w : ℕ) → 1 ≤ w → 128 + a * w ≤ 128 + p * w → a ≤ p
left_of a p w some le = le_of_mul-le-mul_right {m = a} {n = p} {k = w} (omega arith) (omega arith)

-- a place before another stands a period further left
before : (p l w : ℕ) → p < l → 128 + p * w + w ≤ 128 + l * w
before p l w lt = let grow : (p + 1) * w ≤ l * w = mul-le-mul_right w (omega arith) in omega (arith, grow, add-mul p 1 w)

-- where a span of so many places ends
ends : (a l w : ℕ) → a < l → 128 + a * w + (l - a) * w ≡ 128 + l * w
ends a l w lt =
    let parts : a + (l - a) ≡ l = omega arith in
    let whole : (a + (l - a)) * w ≡ l * w = ap (λ (n : ℕ). n * w) parts in
    omega (arith, whole, add-mul a (l - a) w)

-- a place is before another where it stands further left
left_from : (p l w : ℕ) → 128 + p * w < 128 + l * w → p < l
left_from p l w lt = elim (cases_lt p l) [
  | inl less ↦ less
  | inr le ↦ let back : l * w ≤ p * w = mul-le-mul_right w le in omega arith
]

-- the test of a pixel in the frame of a span
abbrev pub framed : (from to begin n p w u v : ℕ) → Bool
framed from to begin n p w u v =
    nat_lt (from - begin) (min n (to - begin))
    && (nat_le (128 + (from - begin) * w) (128 + p * w) && nat_lt (128 + p * w) (128 + (from - begin) * w + (min n (to - begin) - (from - begin)) * w)
    && nat_le (22 + 22 * u + 1) (22 + 22 * v + 1) && nat_lt (22 + 22 * v + 1) (22 + 22 * u + 1 + 20))

-- the test of a period
abbrev pub timed : (from to begin p u v : ℕ) → Bool
timed from to begin p u v = u == v && nat_le from (begin + p) && nat_lt (begin + p) to

to_timed : (from to begin n p w u v : ℕ) → p < n → 1 ≤ w → framed from to begin n p w u v ≡ true → timed from to begin p u v ≡ true
to_timed from to begin n p w u v here some t =
    let a = from - begin in
    let l = min n (to - begin) in
    let seen_test = nat_lt a l in
    let low_test = nat_le (128 + a * w) (128 + p * w) in
    let high_test = nat_lt (128 + p * w) (128 + a * w + (l - a) * w) in
    let up_test = nat_le (22 + 22 * u + 1) (22 + 22 * v + 1) in
    let down_test = nat_lt (22 + 22 * v + 1) (22 + 22 * u + 1 + 20) in
    let one = and_parts seen_test (low_test && high_test && up_test && down_test) t in
    let two = and_parts (low_test && high_test && up_test) down_test one.1 in
    let three = and_parts (low_test && high_test) up_test two.0 in
    let four = and_parts low_test high_test three.0 in
    let seen : a < l = ltb-true a l one.0 in
    let low : 128 + a * w ≤ 128 + p * w = leb-true (128 + a * w) (128 + p * w) four.0 in
    let high : 128 + p * w < 128 + a * w + (l - a) * w = ltb-true (128 + p * w) (128 + a * w + (l - a) * w) four.1 in
    let up : 22 + 22 * u + 1 ≤ 22 + 22 * v + 1 = leb-true (22 + 22 * u + 1) (22 + 22 * v + 1) three.1 in
    let down : 22 + 22 * v + 1 < 22 + 22 * u + 1 + 20 = ltb-true (22 + 22 * v + 1) (22 + 22 * u + 1 + 20) two.1 in
    let end : 128 + a * w + (l - a) * w ≡ 128 + l * w = ends a l w seen in
    let first : a ≤ p = left_of a p w some low in
    let last : p < l = left_from p l w (omega (arith, high, end)) in
    let same : u ≡ v = omega (arith, up, down) in
    and_from (u == v && nat_le from (begin + p)) (nat_lt (begin + p) to)
    (and_from (u == v) (nat_le from (begin + p)) (eq-eqb u v same) (le-leb from (begin + p) (omega (arith, first))))
    (lt-ltb (begin + p) to (omega (arith, last)))

to_framed : (from to begin n p w u v : ℕ) → p < n → 1 ≤ w → timed from to begin p u v ≡ true → framed from to begin n p w u v ≡ true
to_framed from to begin n p w u v here some t =
    let a = from - begin in
    let l = min n (to - begin) in
    let one = and_parts (u == v && nat_le from (begin + p)) (nat_lt (begin + p) to) t in
    let two = and_parts (u == v) (nat_le from (begin + p)) one.0 in
    let same : u ≡ v = eqb-true u v two.0 in
    let low : from ≤ begin + p = leb-true from (begin + p) two.1 in
    let high : begin + p < to = ltb-true (begin + p) to one.1 in
    let first : a ≤ p = omega (arith, low) in
    let last : p < l = omega (arith, high, here) in
    let seen : a < l = omega (arith, first, last) in
    let left : a * w ≤ p * w = mul-le-mul_right w first in
    let right : 128 + p * w + w ≤ 128 + l * w = before p l w last in
    let end : 128 + a * w + (l - a) * w ≡ 128 + l * w = ends a l w seen in
    let low_test = nat_le (128 + a * w) (128 + p * w) in
    let high_test = nat_lt (128 + p * w) (128 + a * w + (l - a) * w) in
    let up_test = nat_le (22 + 22 * u + 1) (22 + 22 * v + 1) in
    let down_test = nat_lt (22 + 22 * v + 1) (22 + 22 * u + 1 + 20) in
    let low_yes : low_test ≡ true = le-leb (128 + a * w) (128 + p * w) (omega (arith, left)) in
    let high_yes : high_test ≡ true = lt-ltb (128 + p * w) (128 + a * w + (l - a) * w) (omega (arith, right, end, some)) in
    let up_yes : up_test ≡ true = le-leb (22 + 22 * u + 1) (22 + 22 * v + 1) (omega (arith, same)) in
    let down_yes : down_test ≡ true = lt-ltb (22 + 22 * v + 1) (22 + 22 * u + 1 + 20) (omega (arith, same)) in
    and_from (nat_lt a l) (low_test && high_test && up_test && down_test) (lt-ltb a l seen)
    (and_from (low_test && high_test && up_test) down_test
    (and_from (low_test && high_test) up_test (and_from low_test high_test low_yes high_yes) up_yes) down_yes)

-- a pixel of a period lies in the frame exactly where the period lies between the times, and the rows are one
pub framed_when_timed : (from to begin n p w u v : ℕ) → p < n → 1 ≤ w → framed from to begin n p w u v ≡ timed from to begin p u v
framed_when_timed from to begin n p w u v here some =
    same_bool _ _ (to_timed from to begin n p w u v here some) (to_framed from to begin n p w u v here some)
