-- Lines: one entry more, the opposite, and bounds on their parts.
use Rattle.std.proofs.Common.{◌≡◌, ℕ, zero, suc, ◌+◌, ◌<◌, ◌≤◌, eqb, List, length, get_or, set, drop, replicate, refl, sym, ap, ◌∙◌, ⊎_elim, arith, ℤ, pos, neg_ℤ, ◌+ℤ◌, ◌-ℤ◌, ◌*ℤ◌}
use Rattle.std.specs.List.{All}
use Rattle.std.proofs.lemmas.Bool.{cond-true, cond-false, eq-eqb, ne_eqb, cases_eq}
use Rattle.std.proofs.lemmas.List.{at_drop_more, get_or-set_same, get_or-set_other}
use Rattle.std.proofs.lemmas.List.Elements.{All-set, All-weaker, All-replicate}
use Rattle.std.proofs.lemmas.Int.{ints}
use Rattle.std.proofs.Math.IntN.{*ℤ-zero, +ℤ_idl}
use Rattle.row_kit.specs.declared.row.Entry.{Entry}
use Rattle.row_kit.specs.Row.{counted, entry_at}
use Rattle.row_kit.proofs.Ascending.{no_entry}
use Rattle.row_kit.proofs.Values.{part_above, part_at-nothing}
use Rattle.dual_bound.specs.declared.line.Line.{Line}
use Rattle.dual_bound.specs.Line.{line_at, slot_line, IsWithin}
use Rattle.dual_bound.proofs.Signed.{mul_add, mul_assoc, add_mul, neg_mul}

four_sum : (x a b y c d z e f : ℤ) → x ≡ a +ℤ b → y ≡ c +ℤ d → z ≡ e +ℤ f → a ≡ c +ℤ e → b ≡ d +ℤ f → x ≡ y +ℤ z
four_sum x a b y c d z e f p q r s t = omega (arith, ints)

two_minus : (x a b y c d : ℤ) → x ≡ a +ℤ b → y ≡ c +ℤ d → a ≡ neg_ℤ c → b ≡ neg_ℤ d → x ≡ neg_ℤ y
two_minus x a b y c d p q r s = omega (arith, ints)

moved : (n r o l c x e : ℤ) → n ≡ r → r ≡ o +ℤ c → o ≡ l → e ≡ c +ℤ x → n +ℤ x ≡ l +ℤ e
moved n r o l c x e p q s t = omega (arith, ints)

-- the parts of a line with a factor times an entry besides are the sums of the parts
pub line_plus : (line sum : Line) (entry : Entry) (n : ℕ) → sum.fixed ≡ line.fixed +ℤ (pos n *ℤ entry.fixed) → sum.per ≡ line.per +ℤ (pos n *ℤ entry.per) → (v : ℕ) → line_at sum v ≡ line_at line v +ℤ (pos n *ℤ counted entry v)
line_plus line sum entry n ef ep zero = omega (arith, ints, *ℤ-zero (pos n))
line_plus line sum entry n ef ep (suc v) =
    let p : sum.per *ℤ pos (suc v) ≡ (line.per *ℤ pos (suc v)) +ℤ (pos n *ℤ (entry.per *ℤ pos (suc v))) =
    ap (λ x. x *ℤ pos (suc v)) ep ∙ add_mul line.per (pos n *ℤ entry.per) (suc v) ∙ ap (λ x. (line.per *ℤ pos (suc v)) +ℤ x) (sym (mul_assoc n (suc v) entry.per)) in
    let q : pos n *ℤ counted entry (suc v) ≡ (pos n *ℤ entry.fixed) +ℤ (pos n *ℤ (entry.per *ℤ pos (suc v))) =
    ap (λ x. pos n *ℤ x) (part_above entry.fixed entry.per (suc v) (omega arith)) ∙ mul_add n entry.fixed (entry.per *ℤ pos (suc v)) in
    four_sum (line_at sum (suc v)) sum.fixed (sum.per *ℤ pos (suc v)) (line_at line (suc v)) line.fixed (line.per *ℤ pos (suc v)) (pos n *ℤ counted entry (suc v)) (pos n *ℤ entry.fixed) (pos n *ℤ (entry.per *ℤ pos (suc v)))
    (part_above sum.fixed sum.per (suc v) (omega arith)) (part_above line.fixed line.per (suc v) (omega arith)) q ef p

pub line_minus : (line opposite : Line) → opposite.fixed ≡ neg_ℤ line.fixed → opposite.per ≡ neg_ℤ line.per → (v : ℕ) → line_at opposite v ≡ neg_ℤ (line_at line v)
line_minus line opposite ef ep zero = refl
line_minus line opposite ef ep (suc v) =
    let p = ap (λ x. x *ℤ pos (suc v)) ep ∙ neg_mul line.per (suc v) in
    two_minus (line_at opposite (suc v)) opposite.fixed (opposite.per *ℤ pos (suc v)) (line_at line (suc v)) line.fixed (line.per *ℤ pos (suc v))
    (part_above opposite.fixed opposite.per (suc v) (omega arith)) (part_above line.fixed line.per (suc v) (omega arith)) ef p

pub within_le : (m n : ℕ) (line : Line) → IsWithin m line → m ≤ n → IsWithin n line
within_le m n line w h = record { fixed = omega (arith, w.fixed); per = omega (arith, w.per) }

pub within_set : (lines : List Line) (slot m k : ℕ) (r : Line) → All (IsWithin m) lines → IsWithin (m + k) r → All (IsWithin (m + k)) (set lines slot r)
within_set lines slot m k r all w =
    All-set (IsWithin (m + k)) lines slot r w (All-weaker (IsWithin m) (IsWithin (m + k)) (λ (x : Line) (h : IsWithin m x). within_le m (m + k) x h (omega arith)) lines all)

-- the line that counts nothing
abbrev pub no_line : Line
no_line = record { fixed = pos 0; per = pos 0 }

-- one entry more is added
pub added : (lines : List Line) (es : List Entry) (n i : ℕ) (r : Line) → i < length es → (get_or es i no_entry).slot < length lines → ((v : ℕ) → line_at r v ≡ line_at (slot_line lines (get_or es i no_entry).slot) v +ℤ (pos n *ℤ counted (get_or es i no_entry) v)) → (slot v : ℕ) → line_at (slot_line (set lines (get_or es i no_entry).slot r) slot) v +ℤ (pos n *ℤ entry_at (drop (i + 1) es) slot v) ≡ line_at (slot_line lines slot) v +ℤ (pos n *ℤ entry_at (drop i es) slot v)
added lines es n i r lt named is slot v =
    let e = get_or es i no_entry in
    let rest = entry_at (drop (i + 1) es) slot v in
    let more = at_drop_more (λ (xs : List Entry). entry_at xs slot v) es i no_entry lt in
    ⊎_elim
    (λ (here : e.slot ≡ slot).
    let t = more ∙ ap (λ x. x +ℤ rest) (cond-true (eqb e.slot slot) (counted e v) (pos 0) (eq-eqb e.slot slot here)) in
    let new' = ap (λ (s : ℕ). line_at (slot_line (set lines e.slot r) s) v) (sym here) ∙ ap (λ (l : Line). line_at l v) (get_or-set_same lines e.slot r no_line named) in
    let old = ap (λ (s : ℕ). line_at (slot_line lines s) v) here in
    let dist = ap (λ x. pos n *ℤ x) t ∙ mul_add n (counted e v) rest in
    moved (line_at (slot_line (set lines e.slot r) slot) v) (line_at r v) (line_at (slot_line lines e.slot) v) (line_at (slot_line lines slot) v) (pos n *ℤ counted e v) (pos n *ℤ rest) (pos n *ℤ entry_at (drop i es) slot v) new' (is v) old dist)
    (λ (apart : e.slot ≡ slot → ⊥).
    let t = more ∙ ap (λ x. x +ℤ rest) (cond-false (eqb e.slot slot) (counted e v) (pos 0) (ne_eqb e.slot slot apart)) ∙ +ℤ_idl rest in
    let same = ap (λ (l : Line). line_at l v) (get_or-set_other lines e.slot slot r no_line (λ q. apart (sym q))) in
    ap (λ x. x +ℤ (pos n *ℤ rest)) same ∙ ap (λ x. line_at (slot_line lines slot) v +ℤ (pos n *ℤ x)) (sym t))
    (cases_eq e.slot slot)

pub all_within_le : (m n : ℕ) (lines : List Line) → m ≤ n → All (IsWithin m) lines → All (IsWithin n) lines
all_within_le m n lines h all = All-weaker (IsWithin m) (IsWithin n) (λ (x : Line) (w : IsWithin m x). within_le m n x w h) lines all

pub row_moved : (n r o c d w : ℤ) → n ≡ o +ℤ c → d ≡ c +ℤ r → o +ℤ d ≡ w → n +ℤ r ≡ w
row_moved n r o c d w p q s = omega (arith, ints)

pub combined : (x t a b r e : ℤ) → x ≡ t +ℤ e → t ≡ neg_ℤ a → a ≡ b +ℤ r → b ≡ pos 0 → x ≡ e -ℤ r
combined x t a b r e p q s z = omega (arith, ints)

-- a line without parts counts nothing
pub nothing_at : (line : Line) (v : ℕ) → IsWithin 0 line → line_at line v ≡ pos 0
nothing_at line v bare =
    let fixed : line.fixed ≡ pos 0 = omega (arith, ints, bare.fixed) in
    let per : line.per ≡ pos 0 = omega (arith, ints, bare.per) in
    ap (λ (x : ℤ). line_at (record { fixed = x; per = line.per }) v) fixed
    ∙ ap (λ (x : ℤ). line_at (record { fixed = pos 0; per = x }) v) per
    ∙ part_at-nothing v

pub bare_within : (n : ℕ) → All (IsWithin 0) (replicate n no_line)
bare_within n = All-replicate (IsWithin 0) n no_line (record { fixed = omega arith; per = omega arith })
