-- A line that counts at least so much at two values does so between them.
use Rattle.std.proofs.Common.{◌≡◌, ℕ, zero, suc, ◌≤◌, true, eqb, ap, ◌∙◌, subst, ⊎_elim, arith, ℤ, pos, ◌+ℤ◌, ◌*ℤ◌, ◌≤ℤ◌, ◌<ℤ◌}
use Rattle.std.specs.Prelude.{int_le}
use Rattle.std.proofs.lemmas.Bool.{cases_eq, cond-false, ne_eqb}
use Rattle.std.proofs.lemmas.Int.{ints, by_lt_z}
use Rattle.std.proofs.Math.IntN.{suc_ℤ-*ℤ, *ℤ_comm}
use Rattle.dual_bound.specs.declared.line.Line.{Line}
use Rattle.dual_bound.specs.Line.{line_at}
use Rattle.dual_bound.specs.laws.Reach.{reaches}

next : (per : ℤ) (n : ℕ) → per *ℤ pos (suc n) ≡ (per *ℤ pos n) +ℤ per
next per n = *ℤ_comm per (pos (suc n)) ∙ suc_ℤ-*ℤ (pos n) per ∙ ap (λ (x : ℤ). x +ℤ per) (*ℤ_comm (pos n) per)

itself : (x : ℤ) → x ≤ℤ x
itself x = omega (arith, ints)

add_up : (a b c per : ℤ) → a ≤ℤ b → pos 0 ≤ℤ per → c ≡ b +ℤ per → a ≤ℤ c
add_up a b c per h k e = omega (arith, ints)

add_down : (a b c per : ℤ) → b ≤ℤ a → per ≤ℤ pos 0 → c ≡ b +ℤ per → c ≤ℤ a
add_down a b c per h k e = omega (arith, ints)

rises : (per : ℤ) (m n : ℕ) → pos 0 ≤ℤ per → m ≤ n → (per *ℤ pos m) ≤ℤ (per *ℤ pos n)
rises per m zero h le = subst (λ (k : ℕ). (per *ℤ pos m) ≤ℤ (per *ℤ pos k)) (let e : m ≡ 0 = omega (arith, le) in e) (itself (per *ℤ pos m))
rises per m (suc n) h le =
    ⊎_elim
    (λ (same : m ≡ suc n). subst (λ (k : ℕ). (per *ℤ pos m) ≤ℤ (per *ℤ pos k)) same (itself (per *ℤ pos m)))
    (λ (apart : m ≡ suc n → ⊥). add_up (per *ℤ pos m) (per *ℤ pos n) (per *ℤ pos (suc n)) per (rises per m n h (omega (arith, le, apart))) h (next per n))
    (cases_eq m (suc n))

falls : (per : ℤ) (m n : ℕ) → per ≤ℤ pos 0 → m ≤ n → (per *ℤ pos n) ≤ℤ (per *ℤ pos m)
falls per m zero h le = subst (λ (k : ℕ). (per *ℤ pos k) ≤ℤ (per *ℤ pos m)) (let e : m ≡ 0 = omega (arith, le) in e) (itself (per *ℤ pos m))
falls per m (suc n) h le =
    ⊎_elim
    (λ (same : m ≡ suc n). subst (λ (k : ℕ). (per *ℤ pos k) ≤ℤ (per *ℤ pos m)) same (itself (per *ℤ pos m)))
    (λ (apart : m ≡ suc n → ⊥). add_down (per *ℤ pos m) (per *ℤ pos n) (per *ℤ pos (suc n)) per (falls per m n h (omega (arith, le, apart))) h (next per n))
    (cases_eq m (suc n))

above_zero : (line : Line) (v : ℕ) → 1 ≤ v → line_at line v ≡ line.fixed +ℤ (line.per *ℤ pos v)
above_zero line v h = cond-false (eqb v 0) (pos 0) (line.fixed +ℤ (line.per *ℤ pos v)) (ne_eqb v 0 (λ e. absurd (omega (arith, h, e))))

through : (need fixed a b x y : ℤ) → int_le need x ≡ true → x ≡ fixed +ℤ a → y ≡ fixed +ℤ b → a ≤ℤ b → int_le need y ≡ true
through need fixed a b x y h e f le = grind (arith, ints)

weak : (a b : ℤ) → a <ℤ b → a ≤ℤ b
weak a b h = omega (arith, ints)

pub reaches_between : (line : Line) (need : ℤ) (a b v : ℕ) → 1 ≤ a → a ≤ v → v ≤ b → reaches line need a ≡ true → reaches line need b ≡ true → reaches line need v ≡ true
reaches_between line need a b v one low high at_a at_b =
    by_lt_z line.per (pos 0)
    (λ (less : line.per <ℤ pos 0).
    through need line.fixed (line.per *ℤ pos b) (line.per *ℤ pos v) (line_at line b) (line_at line v) at_b (above_zero line b (omega (arith, one, low, high))) (above_zero line v (omega (arith, one, low))) (falls line.per v b (weak line.per (pos 0) less) high))
    (λ (more : pos 0 ≤ℤ line.per).
    through need line.fixed (line.per *ℤ pos a) (line.per *ℤ pos v) (line_at line a) (line_at line v) at_a (above_zero line a one) (above_zero line v (omega (arith, one, low))) (rises line.per a v more low))
