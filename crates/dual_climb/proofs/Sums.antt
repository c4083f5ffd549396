-- Sums over factors, and totals that depend on them alone.
use Rattle.std.proofs.Common.{◌≡◌, ℕ, zero, suc, ◌+◌, ◌<◌, cond, eqb, List, [], ◌∷◌, length, get_or, set, refl, sym, ap, ◌∙◌, subst, ⊎_elim, arith, ℤ, pos, ◌+ℤ◌, ◌-ℤ◌, ◌*ℤ◌, ◌<ℤ◌}
use Rattle.std.proofs.lemmas.Bool.{cond-true, cond-false, eq-eqb, ne_eqb, cases_eq}
use Rattle.std.proofs.lemmas.Int.{ints}
use Rattle.std.proofs.Math.IntN.{*ℤ-zero, +ℤ_idl}
use Rattle.row_kit.specs.declared.domain.Domain.{Domain}
use Rattle.row_kit.specs.declared.program.Program.{Program}
use Rattle.row_kit.specs.declared.row.Row.{Row}
use Rattle.row_kit.specs.Row.{entry_at, row_at}
use Rattle.dual_bound.specs.declared.cert.Mult.{Mult}
use Rattle.dual_bound.specs.Total.{rows_at, limits_sum, gain, slots_total, total_of}
use Rattle.dual_bound.proofs.Greatest.{slots_total_same}
use Rattle.dual_climb.specs.Factors.{cert_of, without, with_factor}
use Rattle.dual_climb.specs.RowBest.{BestBy}
use Rattle.dual_climb.specs.laws.Sums.{weighted, HaveSameSums, AreNumbered, no_mult}

-- what rows with factors count is such a sum, and so is the sum of their limits
pub rows_weighted : (rows : List Row) (ms : List Mult) (slot v : ℕ) → rows_at rows ms slot v ≡ weighted (λ r. entry_at (row_at rows r).entries slot v) ms
rows_weighted rows [] slot v = refl
rows_weighted rows (m ∷ ms) slot v = ap (λ (x : ℤ). (pos m.factor *ℤ entry_at (row_at rows m.row).entries slot v) +ℤ x) (rows_weighted rows ms slot v)

pub limits_weighted : (rows : List Row) (ms : List Mult) → limits_sum rows ms ≡ weighted (λ r. (row_at rows r).limit) ms
limits_weighted rows [] = refl
limits_weighted rows (m ∷ ms) = ap (λ (x : ℤ). (pos m.factor *ℤ (row_at rows m.row).limit) +ℤ x) (limits_weighted rows ms)

pub rows_same : (rows : List Row) (a b : List Mult) → HaveSameSums a b → (slot v : ℕ) → rows_at rows a slot v ≡ rows_at rows b slot v
rows_same rows a b h slot v = rows_weighted rows a slot v ∙ h (λ r. entry_at (row_at rows r).entries slot v) ∙ sym (rows_weighted rows b slot v)

pub gain_same : (p : Program) (n : ℕ) (a b : List Mult) → HaveSameSums a b → (slot v : ℕ) → gain p (cert_of n a) slot v ≡ gain p (cert_of n b) slot v
gain_same p n a b h slot v = ap (λ (x : ℤ). (pos n *ℤ entry_at p.profit slot v) -ℤ x) (rows_same p.rows a b h slot v)

-- factors with the same sums give the same total
pub total_same : (p : Program) (ds : List Domain) (n : ℕ) (a b : List Mult) → HaveSameSums a b → total_of p ds (cert_of n a) ≡ total_of p ds (cert_of n b)
total_same p ds n a b h =
    ap (λ (x : ℤ). ((pos n *ℤ p.base) +ℤ x) +ℤ slots_total (gain p (cert_of n a)) 0 ds) (limits_weighted p.rows a ∙ h (λ r. (row_at p.rows r).limit) ∙ sym (limits_weighted p.rows b))
    ∙ ap (λ (x : ℤ). ((pos n *ℤ p.base) +ℤ limits_sum p.rows b) +ℤ x) (slots_total_same (gain p (cert_of n a)) (gain p (cert_of n b)) (length ds) (λ slot v _. gain_same p n a b h slot v) ds 0 (omega arith))

-- rows as before, but that one is worth nothing
abbrev pub zeroed : ℕ → (ℕ → ℤ) → ℕ → ℤ
zeroed row worth r = cond (eqb r row) (pos 0) (worth r)

pub zeroed_here : (row : ℕ) (worth : ℕ → ℤ) (r : ℕ) → r ≡ row → zeroed row worth r ≡ pos 0
zeroed_here row worth r e = cond-true (eqb r row) (pos 0) (worth r) (eq-eqb r row e)

pub zeroed_other : (row : ℕ) (worth : ℕ → ℤ) (r : ℕ) → (r ≡ row → ⊥) → zeroed row worth r ≡ worth r
zeroed_other row worth r h = cond-false (eqb r row) (pos 0) (worth r) (ne_eqb r row h)

nothing_more : (n : ℕ) (x w : ℤ) → x ≡ pos 0 → (pos n *ℤ x) +ℤ w ≡ w
nothing_more n x w e = ap (λ (y : ℤ). (pos n *ℤ y) +ℤ w) e ∙ ap (λ (y : ℤ). y +ℤ w) (*ℤ-zero (pos n)) ∙ +ℤ_idl w

pub weighted_without : (row : ℕ) (worth : ℕ → ℤ) (ms : List Mult) → weighted worth (without row ms) ≡ weighted (zeroed row worth) ms
weighted_without row worth [] = refl
weighted_without row worth (m ∷ ms) =
    ⊎_elim
    (λ (here : m.row ≡ row).
    ap (weighted worth) (cond-true (eqb m.row row) (without row ms) (m ∷ without row ms) (eq-eqb m.row row here))
    ∙ weighted_without row worth ms
    ∙ sym (nothing_more m.factor (zeroed row worth m.row) (weighted (zeroed row worth) ms) (zeroed_here row worth m.row here)))
    (λ (apart : m.row ≡ row → ⊥).
    ap (weighted worth) (cond-false (eqb m.row row) (without row ms) (m ∷ without row ms) (ne_eqb m.row row apart))
    ∙ ap (λ (x : ℤ). (pos m.factor *ℤ worth m.row) +ℤ x) (weighted_without row worth ms)
    ∙ ap (λ (x : ℤ). (pos m.factor *ℤ x) +ℤ weighted (zeroed row worth) ms) (sym (zeroed_other row worth m.row apart)))
    (cases_eq m.row row)

-- the same sums stay the same with a factor in the place of a row's own
pub replaced_same : (a b : List Mult) → HaveSameSums a b → (row factor : ℕ) → HaveSameSums ((record { row = row; factor = factor }) ∷ without row a) ((record { row = row; factor = factor }) ∷ without row b)
replaced_same a b h row factor = λ worth.
    ap (λ (x : ℤ). (pos factor *ℤ worth row) +ℤ x) (weighted_without row worth a ∙ h (zeroed row worth) ∙ sym (weighted_without row worth b))

pub best_same : (fall : ℕ) (p : Program) (ds : List Domain) (n : ℕ) (a b : List Mult) → HaveSameSums a b → (row : ℕ) → BestBy fall p ds (cert_of n a) row → BestBy fall p ds (cert_of n b) row
best_same fall p ds n a b h row best = λ factor le.
    subst (λ (x : ℤ). (x -ℤ pos fall) <ℤ total_of p ds (with_factor (cert_of n b) row factor)) (total_same p ds n a b h)
    (subst (λ (x : ℤ). (total_of p ds (cert_of n a) -ℤ pos fall) <ℤ x) (total_same p ds n ((record { row = row; factor = factor }) ∷ without row a) ((record { row = row; factor = factor }) ∷ without row b) (replaced_same a b h row factor)) (best factor le))

-- rows that come later are not that one
past : (ms : List Mult) (start row : ℕ) (worth : ℕ → ℤ) → AreNumbered start ms → row < start → weighted (zeroed row worth) ms ≡ weighted worth ms
past [] start row worth numbered lt = refl
past (m ∷ ms) start row worth numbered lt =
    let first : m.row ≡ start + 0 = numbered 0 (omega arith) in
    let apart : m.row ≡ row → ⊥ = λ e. absurd (omega arith) in
    let later : AreNumbered (start + 1) ms = λ place h. let e = numbered (suc place) (omega arith) in omega arith in
    ap (λ (x : ℤ). (pos m.factor *ℤ x) +ℤ weighted (zeroed row worth) ms) (zeroed_other row worth m.row apart)
    ∙ ap (λ (x : ℤ). (pos m.factor *ℤ worth m.row) +ℤ x) (past ms (start + 1) row worth later (omega arith))

own_first : (a b w z : ℤ) (n : ℕ) → a ≡ b → z ≡ w → a +ℤ w ≡ b +ℤ ((pos n *ℤ pos 0) +ℤ z)
own_first a b w z n p q = ap (λ (x : ℤ). x +ℤ w) p ∙ ap (λ (x : ℤ). b +ℤ x) (sym q ∙ sym (nothing_more n (pos 0) z refl))

own_later : (a w o z y : ℤ) → w ≡ o +ℤ z → y ≡ a → a +ℤ w ≡ o +ℤ (y +ℤ z)
own_later a w o z y p q = omega (arith, ints)

-- a numbered list's sum is that of one row and of the others
pub own_numbered : (ms : List Mult) (start j row : ℕ) (worth : ℕ → ℤ) → AreNumbered start ms → j < length ms → row ≡ start + j → weighted worth ms ≡ (pos (get_or ms j no_mult).factor *ℤ worth row) +ℤ weighted (zeroed row worth) ms
own_numbered [] start j row worth numbered lt e = absurd (omega arith)
own_numbered (m ∷ ms) start zero row worth numbered lt e =
    let first : m.row ≡ start + 0 = numbered 0 (omega arith) in
    let here : m.row ≡ row = omega arith in
    let later : AreNumbered (start + 1) ms = λ place h. let q = numbered (suc place) (omega arith) in omega arith in
    own_first (pos m.factor *ℤ worth m.row) (pos m.factor *ℤ worth row) (weighted worth ms) (weighted (zeroed row worth) ms) m.factor (ap (λ (r : ℕ). pos m.factor *ℤ worth r) here) (past ms (start + 1) row worth later (omega arith))
    ∙ ap (λ (x : ℤ). (pos m.factor *ℤ worth row) +ℤ ((pos m.factor *ℤ x) +ℤ weighted (zeroed row worth) ms)) (sym (zeroed_here row worth m.row here))
own_numbered (m ∷ ms) start (suc j) row worth numbered lt e =
    let first : m.row ≡ start + 0 = numbered 0 (omega arith) in
    let apart : m.row ≡ row → ⊥ = λ q. absurd (omega arith) in
    let later : AreNumbered (start + 1) ms = λ place h. let q = numbered (suc place) (omega arith) in omega arith in
    own_later (pos m.factor *ℤ worth m.row) (weighted worth ms) (pos (get_or ms j no_mult).factor *ℤ worth row) (weighted (zeroed row worth) ms) (pos m.factor *ℤ zeroed row worth m.row)
    (own_numbered ms (start + 1) j row worth later (omega arith) (omega arith))
    (ap (λ (x : ℤ). pos m.factor *ℤ x) (zeroed_other row worth m.row apart))

-- the sums with a row's own factor in its place are those of the list
pub own_same : (ms : List Mult) (row : ℕ) → AreNumbered 0 ms → row < length ms → HaveSameSums ((record { row = row; factor = (get_or ms row no_mult).factor }) ∷ without row ms) ms
own_same ms row numbered lt = λ worth.
    ap (λ (x : ℤ). (pos (get_or ms row no_mult).factor *ℤ worth row) +ℤ x) (weighted_without row worth ms) ∙ sym (own_numbered ms 0 row row worth numbered lt (omega arith))

set_first : (n w o : ℤ) → (n +ℤ w) +ℤ o ≡ (o +ℤ w) +ℤ n
set_first n w o = omega (arith, ints)

set_later : (a x o w n : ℤ) → x +ℤ o ≡ w +ℤ n → (a +ℤ x) +ℤ o ≡ (a +ℤ w) +ℤ n
set_later a x o w n p = omega (arith, ints)

weighted_set : (ms : List Mult) (j : ℕ) (new : Mult) (worth : ℕ → ℤ) → j < length ms → weighted worth (set ms j new) +ℤ (pos (get_or ms j no_mult).factor *ℤ worth (get_or ms j no_mult).row) ≡ weighted worth ms +ℤ (pos new.factor *ℤ worth new.row)
weighted_set [] j new worth lt = absurd (omega arith)
weighted_set (m ∷ ms) zero new worth lt = set_first (pos new.factor *ℤ worth new.row) (weighted worth ms) (pos m.factor *ℤ worth m.row)
weighted_set (m ∷ ms) (suc j) new worth lt =
    set_later (pos m.factor *ℤ worth m.row) (weighted worth (set ms j new)) (pos (get_or ms j no_mult).factor *ℤ worth (get_or ms j no_mult).row) (weighted worth ms) (pos new.factor *ℤ worth new.row) (weighted_set ms j new worth (omega arith))

replaced : (s o w z n : ℤ) → s +ℤ o ≡ w +ℤ n → w ≡ o +ℤ z → s ≡ n +ℤ z
replaced s o w z n p q = omega (arith, ints)

-- a factor put into a row's place gives the sums with that factor in the place of its own
pub set_same : (ms : List Mult) (row : ℕ) (new : Mult) → AreNumbered 0 ms → row < length ms → new.row ≡ row → HaveSameSums (set ms row new) ((record { row = row; factor = new.factor }) ∷ without row ms)
set_same ms row new numbered lt e = λ worth.
    let old = get_or ms row no_mult in
    let at : old.row ≡ row = (let q = numbered row lt in omega arith) in
    let put = weighted_set ms row new worth lt in
    let there : weighted worth (set ms row new) +ℤ (pos old.factor *ℤ worth row) ≡ weighted worth ms +ℤ (pos new.factor *ℤ worth row) =
    sym (ap (λ (r : ℕ). weighted worth (set ms row new) +ℤ (pos old.factor *ℤ worth r)) at) ∙ put ∙ ap (λ (r : ℕ). weighted worth ms +ℤ (pos new.factor *ℤ worth r)) e in
    replaced (weighted worth (set ms row new)) (pos old.factor *ℤ worth row) (weighted worth ms) (weighted (zeroed row worth) ms) (pos new.factor *ℤ worth row) there (own_numbered ms 0 row row worth numbered lt (omega arith))
    ∙ ap (λ (x : ℤ). (pos new.factor *ℤ worth row) +ℤ x) (sym (weighted_without row worth ms))
