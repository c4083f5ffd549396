-- The values at which an entry counts at most a number, as those at which a multiple is at most or at least another.
use Rattle.std.proofs.Common.{◌≡◌, ℕ, zero, suc, ◌*◌, ◌/◌, ◌<◌, ◌≤◌, Bool, true, false, ◌&&◌, leb, ◌∙◌, refl, sym, ap, subst, arith, ℤ, pos, negsuc, ◌+ℤ◌, ◌-ℤ◌, ◌*ℤ◌, ◌≤ℤ◌, unsigned_abs}
use Rattle.std.specs.Prelude.{int_le}
use Rattle.std.proofs.lemmas.Bool.Decides.{nat_tests}
use Rattle.std.proofs.lemmas.Int.{ints}
use Rattle.std.proofs.Math.IntN.{pos-*ℤ-pos, negsuc-*ℤ-pos}
use Rattle.std.proofs.Math.Nat.{le-div_iff_mul-le, mul_comm}
use Rattle.row_kit.specs.declared.row.Entry.{Entry}
use Rattle.row_kit.specs.Row.{counted}
use Rattle.row_kit.proofs.Values.{part_above}

-- a test that is true exactly where another is, is that one
pub same_test : (a b : Bool) → (a ≡ true → b ≡ true) → (b ≡ true → a ≡ true) → a ≡ b
same_test true b to from' = sym (to refl)
same_test false true to from' = from' refl
same_test false false to from' = refl

pub le_true : (a b : ℤ) → a ≤ℤ b → int_le a b ≡ true
le_true a b h = grind (arith, ints)

pub true_le : (a b : ℤ) → int_le a b ≡ true → a ≤ℤ b
true_le a b h = grind (arith, ints)

up_true : (v most : ℕ) → 1 ≤ v → v ≤ most → (leb 1 v && leb v most) ≡ true
up_true v most low h = grind (arith, nat_tests)

true_up : (v most : ℕ) → (leb 1 v && leb v most) ≡ true → v ≤ most
true_up v most h = grind (arith, nat_tests)

down_true : (v least : ℕ) → least ≤ v → leb least v ≡ true
down_true v least h = grind (arith, nat_tests)

true_down : (v least : ℕ) → leb least v ≡ true → least ≤ v
true_down v least h = grind (arith, nat_tests)

-- an entry's part for each unit, as a multiple
risen : (per : ℤ) (v : ℕ) → pos 0 ≤ℤ per → per *ℤ pos v ≡ pos (unsigned_abs per * v)
risen (pos x) v h = pos-*ℤ-pos x v
risen (negsuc x) v h = absurd (omega (arith, ints))

fallen : (per : ℤ) (v : ℕ) → per ≤ℤ pos 0 → (per *ℤ pos v) +ℤ pos (unsigned_abs per * v) ≡ pos 0
fallen (pos zero) v h = omega (arith, ints, pos-*ℤ-pos 0 v)
fallen (pos (suc x)) v h = absurd (omega (arith, ints))
fallen (negsuc x) v h = omega (arith, ints, negsuc-*ℤ-pos x v)

moved_up : (c f p room left m : ℤ) → c ≡ f +ℤ p → p ≡ m → left ≡ room -ℤ f → c ≤ℤ room → m ≤ℤ left
moved_up c f p room left m e q s h = omega (arith, ints)

moved_back : (c f p room left m : ℤ) → c ≡ f +ℤ p → p ≡ m → left ≡ room -ℤ f → m ≤ℤ left → c ≤ℤ room
moved_back c f p room left m e q s h = omega (arith, ints)

pub allowed_up : (e : Entry) (room left : ℤ) (per most v : ℕ) → pos 0 ≤ℤ e.per → left ≡ room -ℤ e.fixed → per ≡ unsigned_abs e.per → 1 ≤ v → (pos (per * v) ≤ℤ left → v ≤ most) × (v ≤ most → pos (per * v) ≤ℤ left) → int_le (counted e v) room ≡ (leb 1 v && leb v most)
allowed_up e room left per most v up is p low iff =
    let product : e.per *ℤ pos v ≡ pos (per * v) = risen e.per v up ∙ ap (λ (n : ℕ). pos (n * v)) (sym p) in
    let sum : counted e v ≡ e.fixed +ℤ (e.per *ℤ pos v) = part_above e.fixed e.per v low in
    same_test (int_le (counted e v) room) (leb 1 v && leb v most)
    (λ h. up_true v most low (iff.0 (moved_up (counted e v) e.fixed (e.per *ℤ pos v) room left (pos (per * v)) sum product is (true_le (counted e v) room h))))
    (λ h. le_true (counted e v) room (moved_back (counted e v) e.fixed (e.per *ℤ pos v) room left (pos (per * v)) sum product is (iff.1 (true_up v most h))))

turned : (c f p room least m : ℤ) → c ≡ f +ℤ p → p +ℤ m ≡ pos 0 → least ≡ f -ℤ room → c ≤ℤ room → least ≤ℤ m
turned c f p room least m e q s h = omega (arith, ints)

turned_back : (c f p room least m : ℤ) → c ≡ f +ℤ p → p +ℤ m ≡ pos 0 → least ≡ f -ℤ room → least ≤ℤ m → c ≤ℤ room
turned_back c f p room least m e q s h = omega (arith, ints)

pub allowed_down : (e : Entry) (room least : ℤ) (per first v : ℕ) (kept : Bool) → e.per ≤ℤ pos 0 → least ≡ e.fixed -ℤ room → per ≡ unsigned_abs e.per → 1 ≤ v → (least ≤ℤ pos (per * v) → first ≤ v) × (first ≤ v → least ≤ℤ pos (per * v)) → kept ≡ leb first v → int_le (counted e v) room ≡ kept
allowed_down e room least per first v kept down is p low iff same =
    let product : (e.per *ℤ pos v) +ℤ pos (per * v) ≡ pos 0 = ap (λ (n : ℕ). (e.per *ℤ pos v) +ℤ pos (n * v)) p ∙ fallen e.per v down in
    let sum : counted e v ≡ e.fixed +ℤ (e.per *ℤ pos v) = part_above e.fixed e.per v low in
    same_test (int_le (counted e v) room) (leb first v)
    (λ h. down_true v first (iff.0 (turned (counted e v) e.fixed (e.per *ℤ pos v) room least (pos (per * v)) sum product is (true_le (counted e v) room h))))
    (λ h. le_true (counted e v) room (turned_back (counted e v) e.fixed (e.per *ℤ pos v) room least (pos (per * v)) sum product is (iff.1 (true_down v first h))))
    ∙ sym same

natural_le : (m n : ℕ) (left : ℤ) → left ≡ pos n → pos m ≤ℤ left → m ≤ n
natural_le m n left e h = omega (arith, ints)

le_natural : (m n : ℕ) (left : ℤ) → left ≡ pos n → m ≤ n → pos m ≤ℤ left
le_natural m n left e h = omega (arith, ints)

-- a multiple is at most a number where the factor is at most the quotient
pub at_most_quotient : (per v n : ℕ) (left : ℤ) → 0 < per → left ≡ pos n → (pos (per * v) ≤ℤ left → v ≤ n / per) × (v ≤ n / per → pos (per * v) ≤ℤ left)
at_most_quotient per v n left some is =
    let iff = le-div_iff_mul-le {k = per} {x = v} {y = n} some in (
      λ h. iff.1 (subst (λ (m : ℕ). m ≤ n) (mul_comm per v) (natural_le (per * v) n left is h)),
      λ h. le_natural (per * v) n left is (subst (λ (m : ℕ). m ≤ n) (mul_comm v per) (iff.0 h)),
    )
