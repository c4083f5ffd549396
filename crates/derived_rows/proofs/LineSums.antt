-- Lines: one entry more, and bounds on their parts.
use Rattle.std.proofs.Common.{◌≡◌, ℕ, zero, suc, ◌+◌, ◌<◌, ◌≤◌, eqb, List, length, get_or, set, drop, replicate, sym, ap, ap₂, ◌∙◌, ⊎_elim, arith, ℤ, pos, neg_ℤ, ◌+ℤ◌, ◌-ℤ◌, ◌*ℤ◌}
use Rattle.std.specs.List.{All}
use Rattle.std.proofs.lemmas.Bool.{cond-true, cond-false, eq-eqb, ne_eqb, cases_eq, cases_lt}
use Rattle.std.proofs.lemmas.List.{at_drop_more, get_or-set_same, get_or-set_other, get_or-replicate, get_or_past, length-replicate}
use Rattle.std.proofs.lemmas.List.Elements.{All-set, All-weaker, All-replicate}
use Rattle.std.proofs.lemmas.Int.{ints}
use Rattle.std.proofs.Math.IntN.{*ℤ-zero}
use Rattle.row_kit.specs.declared.row.Entry.{Entry}
use Rattle.row_kit.specs.Row.{counted, entry_at, part_at}
use Rattle.row_kit.proofs.Ascending.{no_entry}
use Rattle.row_kit.proofs.Values.{part_above, part_at-nothing}
use Rattle.derived_rows.specs.declared.derived.Derived.{Derived}
use Rattle.derived_rows.specs.declared.line.Line.{Line}
use Rattle.derived_rows.specs.declared.parts.Parts.{Parts}
use Rattle.derived_rows.specs.Derived.{round_of}
use Rattle.derived_rows.specs.Line.{line_at, parts_term, slot_line, IsBelow, IsNothing, IsWithin}
use Rattle.derived_rows.proofs.Products.{times_add, times_next}

-- the parts of a line with a factor times an entry besides are the sums of the parts
pub line_plus : (line sum : Line) (e : Entry) (y : ℤ) → sum.fixed ≡ line.fixed +ℤ (y *ℤ e.fixed) → sum.per ≡ line.per +ℤ (y *ℤ e.per) → (v : ℕ) → line_at sum v ≡ line_at line v +ℤ (y *ℤ counted e v)
line_plus line sum e y ef ep zero = omega (arith, ints, *ℤ-zero y)
line_plus line sum e y ef ep (suc v) =
    let per : sum.per *ℤ pos (suc v) ≡ (line.per *ℤ pos (suc v)) +ℤ (y *ℤ (e.per *ℤ pos (suc v))) = ap (λ (x : ℤ). x *ℤ pos (suc v)) ep ∙ spread line.per y e.per (suc v) in
    let own : y *ℤ counted e (suc v) ≡ (y *ℤ e.fixed) +ℤ (y *ℤ (e.per *ℤ pos (suc v))) =
    ap (λ (x : ℤ). y *ℤ x) (part_above e.fixed e.per (suc v) (omega arith)) ∙ times_add y e.fixed (e.per *ℤ pos (suc v)) in
    omega (arith, ints, part_above sum.fixed sum.per (suc v) (omega arith), part_above line.fixed line.per (suc v) (omega arith), per, own, ef)
  where
    spread : (a y b : ℤ) (n : ℕ) → (a +ℤ (y *ℤ b)) *ℤ pos n ≡ (a *ℤ pos n) +ℤ (y *ℤ (b *ℤ pos n))
    spread a y b zero = omega (arith, ints, *ℤ-zero (a +ℤ (y *ℤ b)), *ℤ-zero a, ap (λ (x : ℤ). y *ℤ x) (*ℤ-zero b), *ℤ-zero y)
    spread a y b (suc n) =
        omega (arith, ints, times_next (a +ℤ (y *ℤ b)) n, times_next a n, ap (λ (x : ℤ). y *ℤ x) (times_next b n), times_add y (b *ℤ pos n) b, spread a y b n)

-- the line that counts nothing
abbrev pub no_line : Line
no_line = record { fixed = pos 0; per = pos 0 }

-- one entry more is added
pub added : (lines : List Line) (es : List Entry) (y : ℤ) (i : ℕ) (r : Line) → i < length es → (get_or es i no_entry).slot < length lines
    → ((v : ℕ) → line_at r v ≡ line_at (slot_line lines (get_or es i no_entry).slot) v +ℤ (y *ℤ counted (get_or es i no_entry) v)) → (slot v : ℕ)
    → line_at (slot_line (set lines (get_or es i no_entry).slot r) slot) v +ℤ (y *ℤ entry_at (drop (i + 1) es) slot v) ≡ line_at (slot_line lines slot) v +ℤ (y *ℤ entry_at (drop i es) slot v)
added lines es y i r lt named is slot v =
    let e = get_or es i no_entry in
    let rest = entry_at (drop (i + 1) es) slot v in
    let more = at_drop_more (λ (xs : List Entry). entry_at xs slot v) es i no_entry lt in
    ⊎_elim
    (λ (here : e.slot ≡ slot).
    let this = more ∙ ap (λ (x : ℤ). x +ℤ rest) (cond-true (eqb e.slot slot) (counted e v) (pos 0) (eq-eqb e.slot slot here)) in
    let written = ap (λ (s : ℕ). line_at (slot_line (set lines e.slot r) s) v) (sym here) ∙ ap (λ (l : Line). line_at l v) (get_or-set_same lines e.slot r no_line named) in
    let before = ap (λ (s : ℕ). line_at (slot_line lines s) v) here in
    let spread = ap (λ (x : ℤ). y *ℤ x) this ∙ times_add y (counted e v) rest in
    omega (arith, ints, written, is v, before, spread))
    (λ (apart : e.slot ≡ slot → ⊥).
    let this = more ∙ ap (λ (x : ℤ). x +ℤ rest) (cond-false (eqb e.slot slot) (counted e v) (pos 0) (ne_eqb e.slot slot apart)) in
    let none : pos 0 +ℤ rest ≡ rest = omega (arith, ints) in
    let same = ap (λ (l : Line). line_at l v) (get_or-set_other lines e.slot slot r no_line (λ q. apart (sym q))) in
    omega (arith, ints, same, ap (λ (x : ℤ). y *ℤ x) (this ∙ none)))
    (cases_eq e.slot slot)

pub within_le : (m n : ℕ) (line : Line) → IsWithin m line → m ≤ n → IsWithin n line
within_le m n line w h = record { fixed = omega (arith, w.fixed); per = omega (arith, w.per) }

pub all_within_le : (m n : ℕ) (lines : List Line) → m ≤ n → All (IsWithin m) lines → All (IsWithin n) lines
all_within_le m n lines h all = All-weaker (IsWithin m) (IsWithin n) (λ (x : Line) (w : IsWithin m x). within_le m n x w h) lines all

pub within_set : (lines : List Line) (slot m k : ℕ) (r : Line) → All (IsWithin m) lines → IsWithin (m + k) r → All (IsWithin (m + k)) (set lines slot r)
within_set lines slot m k r all w = All-set (IsWithin (m + k)) lines slot r w (all_within_le m (m + k) lines (omega arith) all)

pub bare_at : (n slot v : ℕ) → line_at (slot_line (replicate n no_line) slot) v ≡ pos 0
bare_at n slot v =
    ap (λ (l : Line). line_at l v)
    (⊎_elim (λ (h : slot < n). get_or-replicate n slot no_line no_line h)
    (λ (h : n ≤ slot). get_or_past (replicate n no_line) slot no_line (omega (arith, length-replicate n no_line)))
    (cases_lt slot n))
    ∙ part_at-nothing v

pub bare_within : (n : ℕ) → All (IsWithin 0) (replicate n no_line)
bare_within n = All-replicate (IsWithin 0) n no_line (record { fixed = omega arith; per = omega arith })

-- where nothing counts of a slot, its entry is below T, which is 0
pub nothing_below : (derived : Derived) (parts : Parts) → IsNothing parts.sum → IsNothing parts.slack → IsNothing parts.own → (v : ℕ) → IsBelow derived parts v
nothing_below derived parts sum slack own v =
    let round = round_of derived in
    let alone : line_at parts.sum v -ℤ parts.shift ≡ neg_ℤ parts.shift = omega (arith, ints, at_nothing parts.sum sum) in
    let term : parts_term derived parts v ≡ pos 0 = omega (arith, ints, ap round alone, at_nothing parts.slack slack) in
    omega (arith, ints, ap (λ (x : ℤ). pos derived.down *ℤ x) (at_nothing parts.own own), *ℤ-zero (pos derived.down), ap (λ (x : ℤ). pos derived.up *ℤ x) term, *ℤ-zero (pos derived.up))
  where
    at_nothing : (line : Line) → IsNothing line → line_at line v ≡ pos 0
    at_nothing line none = ap₂ (λ (x y : ℤ). part_at (x, y) v) none.0 none.1 ∙ part_at-nothing v
