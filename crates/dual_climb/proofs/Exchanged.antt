-- A total with a factor in the place of a row's own: a part that stays, and the part along the row.
use Rattle.std.proofs.Common.{◌≡◌, ℕ, zero, suc, ◌+◌, ◌<◌, ◌≤◌, eqb, List, [], ◌∷◌, length, get_or, refl, sym, ap, ◌∙◌, subst, arith, ℤ, pos, ◌+ℤ◌, ◌-ℤ◌, ◌*ℤ◌}
use Rattle.std.specs.List.{All}
use Rattle.std.proofs.lemmas.Bool.{cond-true, cond-false, eq-eqb, ne_eqb}
use Rattle.std.proofs.lemmas.List.Elements.{All-head, All-tail}
use Rattle.std.proofs.lemmas.Int.{ints}
use Rattle.std.proofs.Math.IntN.{*ℤ-zero, +ℤ_idl, +ℤ_idr}
use Rattle.row_kit.specs.declared.domain.Domain.{Domain}
use Rattle.row_kit.specs.declared.program.Program.{Program}
use Rattle.row_kit.specs.declared.row.Entry.{Entry}
use Rattle.row_kit.specs.Bounds.{IsBoundedRow}
use Rattle.row_kit.specs.Domain.{domain_at, values_of}
use Rattle.row_kit.specs.Row.{counted, entry_at, row_at}
use Rattle.row_kit.proofs.Ascending.{no_entry, other_slots}
use Rattle.dual_bound.specs.declared.cert.Mult.{Mult}
use Rattle.dual_bound.specs.declared.line.Line.{Line}
use Rattle.dual_bound.specs.Line.{line_at, slot_line}
use Rattle.dual_bound.specs.Total.{rows_at, limits_sum, gain, greatest, slots_total, total_of}
use Rattle.dual_bound.proofs.Greatest.{greatest_same}
use Rattle.dual_climb.specs.laws.Along.{entries_part, freed, part_along}
use Rattle.dual_climb.specs.Factors.{cert_of, without, with_factor}
use Rattle.dual_climb.specs.laws.Sums.{IsFull, no_mult}
use Rattle.dual_climb.proofs.Sums.{own_same, rows_same, total_same}

-- no two entries have one slot
abbrev pub AreApart : List Entry → Type 0
AreApart es = (j k : ℕ) → j < length es → k < length es → (j ≡ k → ⊥) → (get_or es j no_entry).slot ≡ (get_or es k no_entry).slot → ⊥

tail_apart : (e : Entry) (es : List Entry) → AreApart (e ∷ es) → AreApart es
tail_apart e es apart = λ j k in_j in_k ne. apart (suc j) (suc k) (omega arith) (omega arith) (λ q. ne (omega arith))

-- a slot without an entry counts nothing
no_own : (es : List Entry) (slot v : ℕ) → ((j : ℕ) → j < length es → (get_or es j no_entry).slot ≡ slot → ⊥) → entry_at es slot v ≡ pos 0
no_own [] slot v none = refl
no_own (e ∷ es) slot v none =
    ap (λ (x : ℤ). x +ℤ entry_at es slot v) (cond-false (eqb e.slot slot) (counted e v) (pos 0) (ne_eqb e.slot slot (none 0 (omega arith))))
    ∙ +ℤ_idl (entry_at es slot v)
    ∙ no_own es slot v (λ j lt. none (suc j) (omega arith))

head_own : (e : Entry) (es : List Entry) (v : ℕ) → AreApart (e ∷ es) → entry_at es e.slot v ≡ pos 0
head_own e es v apart = no_own es e.slot v (λ j lt. apart (suc j) 0 (omega arith) (omega arith) (λ q. absurd (omega arith)))

-- each entry is its slot's own
pub own_entry : (es : List Entry) (k v : ℕ) → AreApart es → k < length es → entry_at es (get_or es k no_entry).slot v ≡ counted (get_or es k no_entry) v
own_entry [] k v apart lt = absurd (omega arith)
own_entry (e ∷ es) zero v apart lt =
    ap (λ (x : ℤ). x +ℤ entry_at es e.slot v) (cond-true (eqb e.slot e.slot) (counted e v) (pos 0) (eq-eqb e.slot e.slot refl))
    ∙ ap (λ (x : ℤ). counted e v +ℤ x) (head_own e es v apart)
    ∙ +ℤ_idr (counted e v)
own_entry (e ∷ es) (suc k) v apart lt =
    let s = (get_or es k no_entry).slot in
    ap (λ (x : ℤ). x +ℤ entry_at es s v) (cond-false (eqb e.slot s) (counted e v) (pos 0) (ne_eqb e.slot s (apart 0 (suc k) (omega arith) lt (λ q. absurd (omega arith)))))
    ∙ +ℤ_idl (entry_at es s v)
    ∙ own_entry es k v (tail_apart e es apart) (omega arith)

rest_same : (f g : ℕ → ℕ → ℤ) (ds : List Domain) (i : ℕ) → ((s v : ℕ) → i ≤ s → f s v ≡ g s v) → slots_total f i ds ≡ slots_total g i ds
rest_same f g [] i h = refl
rest_same f g (d ∷ ds) i h =
    ap (λ (x : ℤ). x +ℤ slots_total f (i + 1) ds) (greatest_same (f i) (g i) (λ v. h i v (omega arith)) (values_of d))
    ∙ ap (λ (x : ℤ). greatest (g i) (values_of d) +ℤ x) (rest_same f g ds (i + 1) (λ s v le. h s v (omega arith)))

swapped : (a b a2 b2 r s : ℤ) → a ≡ a2 → b ≡ b2 → r ≡ s → (a +ℤ r) +ℤ b2 ≡ (b +ℤ s) +ℤ a2
swapped a b a2 b2 r s p q t = omega (arith, ints)

shifted : (a b x y c d : ℤ) → a ≡ b → x +ℤ c ≡ y +ℤ d → (a +ℤ x) +ℤ c ≡ (b +ℤ y) +ℤ d
shifted a b x y c d p q = omega (arith, ints)

-- two functions that differ at one slot alone differ there in their totals
one_slot : (f g : ℕ → ℕ → ℤ) (s0 i k : ℕ) (ds : List Domain) → s0 ≡ i + k → ((s v : ℕ) → (s ≡ s0 → ⊥) → f s v ≡ g s v) → k < length ds → slots_total f i ds +ℤ greatest (g s0) (values_of (domain_at ds k)) ≡ slots_total g i ds +ℤ greatest (f s0) (values_of (domain_at ds k))
one_slot f g s0 i k [] e h lt = absurd (omega arith)
one_slot f g s0 i zero (d ∷ ds) e h lt =
    let here : i ≡ s0 = omega arith in
    swapped (greatest (f i) (values_of d)) (greatest (g i) (values_of d)) (greatest (f s0) (values_of d)) (greatest (g s0) (values_of d)) (slots_total f (i + 1) ds) (slots_total g (i + 1) ds)
    (ap (λ (s : ℕ). greatest (f s) (values_of d)) here) (ap (λ (s : ℕ). greatest (g s) (values_of d)) here)
    (rest_same f g ds (i + 1) (λ s v le. h s v (λ q. absurd (omega arith))))
one_slot f g s0 i (suc k) (d ∷ ds) e h lt =
    shifted (greatest (f i) (values_of d)) (greatest (g i) (values_of d)) (slots_total f (i + 1) ds) (slots_total g (i + 1) ds) (greatest (g s0) (values_of (domain_at ds k))) (greatest (f s0) (values_of (domain_at ds k)))
    (greatest_same (f i) (g i) (λ v. h i v (λ q. absurd (omega arith))) (values_of d))
    (one_slot f g s0 (i + 1) k ds (omega arith) h (omega arith))

-- the sum over entries of the greatest at their slots
abbrev pub own_part : (ℕ → ℕ → ℤ) → List Domain → List Entry → ℤ
own_part f ds [] = pos 0
own_part f ds (e ∷ es) = greatest (f e.slot) (values_of (domain_at ds e.slot)) +ℤ own_part f ds es

less_nothing : (n : ℕ) (a x : ℤ) → x ≡ pos 0 → a -ℤ (pos n *ℤ x) ≡ a
less_nothing n a x e = ap (λ (y : ℤ). a -ℤ (pos n *ℤ y)) e ∙ ap (λ (y : ℤ). a -ℤ y) (*ℤ-zero (pos n)) ∙ minus_none a
  where
    minus_none : (a : ℤ) → a -ℤ pos 0 ≡ a
    minus_none a = omega (arith, ints)

joined : (sh sg sf gg gf gh ge own part : ℤ) → sh +ℤ gg ≡ sg +ℤ gh → gg ≡ gf → gh ≡ ge → sg +ℤ own ≡ sf +ℤ part → sh +ℤ (gf +ℤ own) ≡ sf +ℤ (ge +ℤ part)
joined sh sg sf gg gf gh ge own part p q r t = omega (arith, ints)

none_more : (a b : ℤ) → a ≡ b → a +ℤ pos 0 ≡ b +ℤ pos 0
none_more a b p = ap (λ (x : ℤ). x +ℤ pos 0) p

-- a factor times the entries changes the total over slots at the slots of the entries alone
pub exchanged : (f : ℕ → ℕ → ℤ) (n : ℕ) (ds : List Domain) (es : List Entry) → AreApart es → All (λ e. e.slot < length ds) es → slots_total (λ s v. f s v -ℤ (pos n *ℤ entry_at es s v)) 0 ds +ℤ own_part f ds es ≡ slots_total f 0 ds +ℤ entries_part (λ e. f e.slot) ds es n
exchanged f n ds [] apart named = none_more (slots_total (λ s v. f s v -ℤ (pos n *ℤ pos 0)) 0 ds) (slots_total f 0 ds) (rest_same (λ s v. f s v -ℤ (pos n *ℤ pos 0)) f ds 0 (λ s v _. less_nothing n (f s v) (pos 0) refl))
exchanged f n ds (e ∷ es) apart named =
    let g : ℕ → ℕ → ℤ = λ s v. f s v -ℤ (pos n *ℤ entry_at es s v) in
    let h : ℕ → ℕ → ℤ = λ s v. f s v -ℤ (pos n *ℤ entry_at (e ∷ es) s v) in
    let vs = values_of (domain_at ds e.slot) in
    let off = λ (s v : ℕ) (ne : s ≡ e.slot → ⊥). ap (λ (x : ℤ). f s v -ℤ (pos n *ℤ x)) (ap (λ (x : ℤ). x +ℤ entry_at es s v) (cond-false (eqb e.slot s) (counted e v) (pos 0) (ne_eqb e.slot s (λ q. ne (sym q)))) ∙ +ℤ_idl (entry_at es s v)) in
    let bare : greatest (g e.slot) vs ≡ greatest (f e.slot) vs = greatest_same (g e.slot) (f e.slot) (λ v. less_nothing n (f e.slot v) (entry_at es e.slot v) (head_own e es v apart)) vs in
    let full : greatest (h e.slot) vs ≡ greatest (λ v. f e.slot v -ℤ (pos n *ℤ counted e v)) vs =
    greatest_same (h e.slot) (λ v. f e.slot v -ℤ (pos n *ℤ counted e v)) (λ v. ap (λ (x : ℤ). f e.slot v -ℤ (pos n *ℤ x)) (own_entry (e ∷ es) 0 v apart (omega arith))) vs in
    joined (slots_total h 0 ds) (slots_total g 0 ds) (slots_total f 0 ds) (greatest (g e.slot) vs) (greatest (f e.slot) vs) (greatest (h e.slot) vs) (greatest (λ v. f e.slot v -ℤ (pos n *ℤ counted e v)) vs) (own_part f ds es) (entries_part (λ x. f x.slot) ds es n)
    (one_slot h g e.slot 0 e.slot ds (omega arith) off (All-head (λ (x : Entry). x.slot < length ds) e es named)) bare full
    (exchanged f n ds es (tail_apart e es apart) (All-tail (λ (x : Entry). x.slot < length ds) e es named))

part_same : (f g : Entry → ℕ → ℤ) (ds : List Domain) (es : List Entry) (n : ℕ) → ((k v : ℕ) → k < length es → f (get_or es k no_entry) v ≡ g (get_or es k no_entry) v) → entries_part f ds es n ≡ entries_part g ds es n
part_same f g ds [] n h = refl
part_same f g ds (e ∷ es) n h =
    ap (λ (x : ℤ). x +ℤ entries_part f ds es n) (greatest_same (λ v. f e v -ℤ (pos n *ℤ counted e v)) (λ v. g e v -ℤ (pos n *ℤ counted e v)) (λ v. ap (λ (x : ℤ). x -ℤ (pos n *ℤ counted e v)) (h 0 v (omega arith))) (values_of (domain_at ds e.slot)))
    ∙ ap (λ (x : ℤ). greatest (λ v. g e v -ℤ (pos n *ℤ counted e v)) (values_of (domain_at ds e.slot)) +ℤ x) (part_same f g ds es n (λ k v lt. h (suc k) v (omega arith)))

-- what a slot gains without a row
abbrev pub others_gain : Program → ℕ → List Mult → ℕ → ℕ → ℕ → ℤ
others_gain p n ms row slot v = (pos n *ℤ entry_at p.profit slot v) -ℤ rows_at p.rows (without row ms) slot v

-- the part of a total that stays whatever the factor of a row is
abbrev pub staying : Program → List Domain → ℕ → List Mult → ℕ → ℤ
staying p ds n ms row =
    (((pos n *ℤ p.base) +ℤ limits_sum p.rows (without row ms)) +ℤ slots_total (others_gain p n ms row) 0 ds) -ℤ own_part (others_gain p n ms row) ds (row_at p.rows row).entries

apart_sum : (a b c : ℤ) → a -ℤ (b +ℤ c) ≡ (a -ℤ c) -ℤ b
apart_sum a b c = omega (arith, ints)

gathered_total : (b l l0 s f own part : ℤ) → s +ℤ own ≡ f +ℤ part → (b +ℤ (l +ℤ l0)) +ℤ s ≡ (((b +ℤ l0) +ℤ f) -ℤ own) +ℤ (l +ℤ part)
gathered_total b l l0 s f own part p = omega (arith, ints)

freed_back : (g a x r o : ℤ) → g ≡ a -ℤ (o +ℤ r) → x ≡ o → g +ℤ x ≡ a -ℤ r
freed_back g a x r o p q = omega (arith, ints)

-- the total with a factor in the place of a row's own is the part that stays and the part along the row
pub total_along : (p : Program) (ds : List Domain) (n row : ℕ) (ms : List Mult) (lines : List Line) → length ds ≡ length p.root → IsFull (length p.rows) ms → row < length p.rows → IsBoundedRow (length p.root) (row_at p.rows row) → ((slot v : ℕ) → slot < length p.root → line_at (slot_line lines slot) v ≡ gain p (cert_of n ms) slot v) → (factor : ℕ) → total_of p ds (with_factor (cert_of n ms) row factor) ≡ staying p ds n ms row +ℤ part_along lines ds (row_at p.rows row) (get_or ms row no_mult).factor factor
total_along p ds n row ms lines same full there bounded exact factor =
    let r = row_at p.rows row in
    let es = r.entries in
    let f = others_gain p n ms row in
    let own = (get_or ms row no_mult).factor in
    let apart : AreApart es = other_slots es bounded.entries.ascending in
    let named : All (λ (e : Entry). e.slot < length ds) es = subst (λ (k : ℕ). All (λ (e : Entry). e.slot < k) es) (sym same) bounded.entries.named in
    let gains : (s v : ℕ) → gain p (with_factor (cert_of n ms) row factor) s v ≡ f s v -ℤ (pos factor *ℤ entry_at es s v) =
    λ s v. apart_sum (pos n *ℤ entry_at p.profit s v) (pos factor *ℤ entry_at es s v) (rows_at p.rows (without row ms) s v) in
    let slots = rest_same (gain p (with_factor (cert_of n ms) row factor)) (λ s v. f s v -ℤ (pos factor *ℤ entry_at es s v)) ds 0 (λ s v _. gains s v) in
    let held : (k v : ℕ) → k < length es → freed lines own (get_or es k no_entry) v ≡ f (get_or es k no_entry).slot v =
    λ k v lt.
    let e = get_or es k no_entry in
    let in_lines : e.slot < length p.root = omega (arith, named k no_entry lt, same) in
    let rows : rows_at p.rows ms e.slot v ≡ (pos own *ℤ entry_at es e.slot v) +ℤ rows_at p.rows (without row ms) e.slot v = sym (rows_same p.rows ((record { row = row; factor = own }) ∷ without row ms) ms (own_same ms row full.numbered (omega (arith, full.all))) e.slot v) in
    freed_back (line_at (slot_line lines e.slot) v) (pos n *ℤ entry_at p.profit e.slot v) (pos own *ℤ counted e v) (rows_at p.rows (without row ms) e.slot v) (pos own *ℤ entry_at es e.slot v)
    (exact e.slot v in_lines ∙ ap (λ (x : ℤ). (pos n *ℤ entry_at p.profit e.slot v) -ℤ x) rows)
    (ap (λ (x : ℤ). pos own *ℤ x) (sym (own_entry es k v apart lt))) in
    let parts = part_same (λ e. f e.slot) (freed lines own) ds es factor (λ k v lt. sym (held k v lt)) in
    gathered_total (pos n *ℤ p.base) (pos factor *ℤ r.limit) (limits_sum p.rows (without row ms)) (slots_total (gain p (with_factor (cert_of n ms) row factor)) 0 ds) (slots_total f 0 ds) (own_part f ds es) (entries_part (freed lines own) ds es factor)
    (ap (λ (x : ℤ). x +ℤ own_part f ds es) slots ∙ exchanged f factor ds es apart named ∙ ap (λ (x : ℤ). slots_total f 0 ds +ℤ x) parts)

-- and so is the total itself, at the row's own factor
pub total_own : (p : Program) (ds : List Domain) (n row : ℕ) (ms : List Mult) → IsFull (length p.rows) ms → row < length p.rows → total_of p ds (with_factor (cert_of n ms) row (get_or ms row no_mult).factor) ≡ total_of p ds (cert_of n ms)
total_own p ds n row ms full there = total_same p ds n ((record { row = row; factor = (get_or ms row no_mult).factor }) ∷ without row ms) ms (own_same ms row full.numbered (omega (arith, full.all)))
