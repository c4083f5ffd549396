-- The parts of a derived row, one after another.
use Rattle.std.proofs.Common.{◌≡◌, inl, inr, ℕ, ℤ, zero, suc, ◌+◌, ◌-◌, ◌<◌, ◌≤◌, nat_lt, nat_le, Bool, true, false, cond, List, [], ◌∷◌, ◌++◌, length, length-append, map, get_or, Option, Some, None, unsigned_abs, subst, sym, ap, ◌∙◌, refl, arith, append_assoc}
use Rattle.std.proofs.lemmas.Bool.Decides.{nat_tests}
use Rattle.std.proofs.lemmas.List.{append-nil, map-append}
use Rattle.std.proofs.lemmas.List.Elements.{All-append}
use Rattle.std.specs.List.Sorted.{IsStrictlyIncreasing}
use Rattle.log_lines.specs.Grammar.{follows}
use Rattle.row_kit.specs.declared.row.Entry.{Entry}
use Rattle.derived_rows.specs.declared.derived.Derived.{Derived}
use Rattle.derived_rows.specs.declared.derived.Factor.{Factor}
use Rattle.derived_rows.specs.declared.derived.Members.{Members}
use Rattle.derived_rows.specs.declared.derived.Members.TheVariants.{One, OfRow}
use Rattle.derived_rows.specs.Shown.{IsFactor}
use Rattle.sum_lines.specs.Head.{last_slot}
use Rattle.sum_lines.proofs.TermLines.{ascending_more, follows_above, one, terms_more}
use Rattle.derivation_lines.specs.declared.line.TailLine.{TailLine}
use Rattle.derivation_lines.specs.declared.pieces.Piece.{Piece}
use Rattle.derivation_lines.specs.declared.pieces.Piece.TheVariants as piece
use Rattle.derivation_lines.specs.declared.tail.Counts.{Counts}
use Rattle.derivation_lines.specs.declared.tail.Part.{Part}
use Rattle.derivation_lines.specs.declared.tail.Part.TheVariants as part
use Rattle.derivation_lines.specs.Front.{IsFewer, IsFilling, MayFollow, last_row, next_part, part_defect}
use Rattle.derivation_lines.specs.Tail.{AreNamed, ArePartsKept, IsNamedGroup, counts_of, entry_line, factor_line, group_line, members_line, part_lines}
use Rattle.derivation_lines.specs.laws.Parts.{HasHead, HasNoParts, IsNextPiece, part_of, piece_line, with_piece}

-- ---- the last of numbers

-- the row of the last factor, by its place
pub last_row_at : (above : Option ℕ) (factors : List Factor) (d : Factor) → 0 < length factors → last_row above factors ≡ Some (get_or factors (length factors - 1) d).row
last_row_at above [] d some = absurd (omega arith)
last_row_at above (f ∷ []) d some = refl
last_row_at above (f ∷ g ∷ factors) d some =
    let next : length (f ∷ g ∷ factors) - 1 ≡ suc (length (g ∷ factors) - 1) = omega arith in
    last_row_at (Some f.row) (g ∷ factors) d (omega arith) ∙ ap (λ k. Some (get_or (f ∷ g ∷ factors) k d).row) (sym next)

-- the slot of the last entry, by its place
pub last_slot_at : (above : Option ℕ) (entries : List Entry) (d : Entry) → 0 < length entries → last_slot above entries ≡ Some (get_or entries (length entries - 1) d).slot
last_slot_at above [] d some = absurd (omega arith)
last_slot_at above (e ∷ []) d some = refl
last_slot_at above (e ∷ f ∷ entries) d some =
    let next : length (e ∷ f ∷ entries) - 1 ≡ suc (length (f ∷ entries) - 1) = omega arith in
    last_slot_at (Some e.slot) (f ∷ entries) d (omega arith) ∙ ap (λ k. Some (get_or (e ∷ f ∷ entries) k d).slot) (sym next)

-- ---- which part comes next

next_factor : (a b : Bool) → cond {A = Part} a part.Factor (cond {A = Part} b part.Group part.Entry) ≡ part.Factor → a ≡ true
next_factor true b is = refl
next_factor false true is = cc
next_factor false false is = cc

next_group : (a b : Bool) → cond {A = Part} a part.Factor (cond {A = Part} b part.Group part.Entry) ≡ part.Group → (a ≡ false) × (b ≡ true)
next_group true b is = cc
next_group false true is = (refl, refl)
next_group false false is = cc

next_entry : (a b : Bool) → cond {A = Part} a part.Factor (cond {A = Part} b part.Group part.Entry) ≡ part.Entry → (a ≡ false) × (b ≡ false)
next_entry true b is = cc
next_entry false true is = cc
next_entry false false is = (refl, refl)

-- a factor comes next: there are too few
factor_few : (derived : Derived) (counts : Counts) → next_part derived counts ≡ part.Factor → length derived.factors < counts.factors
factor_few derived counts is = let tells = next_factor (nat_lt (length derived.factors) counts.factors) (nat_lt (length derived.groups) counts.groups) is in grind (arith, nat_tests)

-- a group comes next: there are too few, and all factors
group_few : (derived : Derived) (counts : Counts) → next_part derived counts ≡ part.Group → (counts.factors ≤ length derived.factors) × (length derived.groups < counts.groups)
group_few derived counts is =
    let tells = next_group (nat_lt (length derived.factors) counts.factors) (nat_lt (length derived.groups) counts.groups) is in
    let a = tells.0 in let b = tells.1 in (grind (arith, nat_tests), grind (arith, nat_tests))

-- an entry comes next: all factors and groups are there
entry_few : (derived : Derived) (counts : Counts) → next_part derived counts ≡ part.Entry → (counts.factors ≤ length derived.factors) × (counts.groups ≤ length derived.groups)
entry_few derived counts is =
    let tells = next_entry (nat_lt (length derived.factors) counts.factors) (nat_lt (length derived.groups) counts.groups) is in
    let a = tells.0 in let b = tells.1 in (grind (arith, nat_tests), grind (arith, nat_tests))

-- the line of a group may come where a group does
group_follows : (derived : Derived) (next : Part) (members : Members) (shift : ℤ) → MayFollow derived next (members_line members shift) → next ≡ part.Group
group_follows derived part.Factor (One _) shift may = absurd may
group_follows derived part.Factor (OfRow _) shift may = absurd may
group_follows derived part.Group members shift may = refl
group_follows derived part.Entry (One _) shift may = absurd may
group_follows derived part.Entry (OfRow _) shift may = absurd may

-- a piece that may follow is one of the part that comes next
pub part_is : (derived : Derived) (next : Part) (p : Piece) → MayFollow derived next (piece_line p) → next ≡ part_of p
part_is derived part.Factor (piece.Factor f) may = refl
part_is derived part.Group (piece.Factor f) may = absurd may
part_is derived part.Entry (piece.Factor f) may = absurd may
part_is derived next (piece.Group g) may = group_follows derived next g.members g.shift may
part_is derived part.Factor (piece.Entry e) may = absurd may
part_is derived part.Group (piece.Entry e) may = absurd may
part_is derived part.Entry (piece.Entry e) may = refl

-- ---- one part more

-- no number fails a test
not_far : (b : Bool) (kind : ℕ) → cond {A = Option ℕ} b (Some kind) None ≡ None → b ≡ false
not_far true kind is = cc
not_far false kind is = refl

below_is : (count number kind : ℕ) → cond {A = Option ℕ} (nat_le count number) (Some kind) None ≡ None → number < count
below_is count number kind is = let tells = not_far (nat_le count number) kind is in grind (arith, nat_tests)

no_length : (n : ℕ) → (0 < n → ⊥) → n ≤ 0
no_length zero none = omega arith
no_length (suc n) none = absurd (none (omega arith))

equal_by : (m n : ℕ) → m ≤ n → (m < n → ⊥) → m ≡ n
equal_by m n few less = omega (arith, no_length (n - m) (λ some. less (omega arith)))

nothing : {X : Type 0} (xs : List X) → length xs ≤ 0 → xs ≡ []
nothing [] few = refl
nothing (x ∷ xs) few = absurd (omega arith)

-- as many rows as factors
rows_long : (factors : List Factor) → length (map (λ (f : Factor). f.row) factors) ≡ length factors
rows_long [] = refl
rows_long (f ∷ factors) = ap suc (rows_long factors)

-- the last row by its place among the rows
rows_last : (above : Option ℕ) (factors : List Factor) → 0 < length factors → last_row above factors ≡ Some (get_or (map (λ (f : Factor). f.row) factors) (length factors - 1) 0)
rows_last above [] some = absurd (omega arith)
rows_last above (f ∷ []) some = refl
rows_last above (f ∷ g ∷ factors) some =
    let next : length (f ∷ g ∷ factors) - 1 ≡ suc (length (g ∷ factors) - 1) = omega arith in
    rows_last (Some f.row) (g ∷ factors) (omega arith) ∙ ap (λ k. Some (get_or (map (λ (f : Factor). f.row) (f ∷ g ∷ factors)) k 0)) (sym next)

-- the rows of factors and one more
rows_more : (factors : List Factor) (factor : Factor) → IsStrictlyIncreasing (map (λ (f : Factor). f.row) factors) → follows (last_row None factors) factor.row ≡ true → IsStrictlyIncreasing (map (λ (f : Factor). f.row) (factors ++ factor ∷ []))
rows_more factors factor ascending tells =
    let rows : List ℕ = map (λ (f : Factor). f.row) factors in
    let long : length rows ≡ length factors = rows_long factors in
    subst IsStrictlyIncreasing (sym (map-append (λ (f : Factor). f.row) factors (factor ∷ [])))
    (ascending_more rows factor.row ascending
    (λ some. let place : length factors - 1 ≡ length rows - 1 = ap (λ n. n - 1) (sym long) in
    follows_above (last_row None factors) (get_or rows (length rows - 1) 0) factor.row (rows_last None factors (omega arith) ∙ ap (λ k. Some (get_or rows k 0)) place) tells))

-- the members of a group are there
group_named : (slots rows : ℕ) (members : Members) (shift : ℤ) → part_defect slots rows (members_line members shift) ≡ None → AreNamed slots rows members
group_named slots rows (One slot) shift sound = below_is slots slot 5 sound
group_named slots rows (OfRow row) shift sound = below_is rows row 4 sound

group_small : (derived : Derived) (members : Members) (shift : ℤ) → MayFollow derived part.Group (members_line members shift) → unsigned_abs shift ≤ 1000000000000
group_small derived (One slot) shift may = may.1
group_small derived (OfRow row) shift may = may.1

-- one part more keeps the ranges
more_kept : (slots rows : ℕ) (derived : Derived) (p : Piece) → ArePartsKept slots rows derived → MayFollow derived (part_of p) (piece_line p) → part_defect slots rows (piece_line p) ≡ None → ArePartsKept slots rows (with_piece derived p)
more_kept slots rows derived (piece.Factor f) kept may sound = record {
  factors = All-append (IsFactor rows) derived.factors (f ∷ []) kept.factors (one (IsFactor rows) f (record { row = below_is rows f.row 4 sound; some = may.0.1.0; small = may.0.1.1 }));
  ascending = rows_more derived.factors f kept.ascending may.1;
  groups = kept.groups;
  entries = kept.entries;
}
more_kept slots rows derived (piece.Group g) kept may sound = record {
  factors = kept.factors;
  ascending = kept.ascending;
  groups = All-append (IsNamedGroup slots rows) derived.groups (g ∷ []) kept.groups
      (one (IsNamedGroup slots rows) g (record { there = group_named slots rows g.members g.shift sound; small = group_small derived g.members g.shift may }));
  entries = kept.entries;
}
more_kept slots rows derived (piece.Entry e) kept may sound = record {
  factors = kept.factors;
  ascending = kept.ascending;
  groups = kept.groups;
  entries = terms_more slots derived.entries e kept.entries (record { there = below_is slots e.slot 5 sound; above_last = may.1; fixed = may.0.1; per = may.0.2; counts = may.0.3 });
}

pub piece_kept : (slots rows : ℕ) (derived : Derived) (counts : Counts) (p : Piece) → ArePartsKept slots rows derived → IsNextPiece slots rows derived (next_part derived counts) p → ArePartsKept slots rows (with_piece derived p)
piece_kept slots rows derived counts p kept next =
    more_kept slots rows derived p kept (subst (λ n. MayFollow derived n (piece_line p)) (part_is derived (next_part derived counts) p next.follows) next.follows) next.sound

-- there is room for one entry more
entry_room : (derived : Derived) (counts : Counts) → IsFilling derived counts → IsFewer derived counts → counts.factors ≤ length derived.factors → counts.groups ≤ length derived.groups → (n : ℕ) → n ≡ length derived.entries + 1 → n ≤ counts.entries
entry_room derived counts filling (inl less) factors groups n is = absurd (omega (arith, less, factors))
entry_room derived counts filling (inr (inl less)) factors groups n is = absurd (omega (arith, less, groups))
entry_room derived counts filling (inr (inr less)) factors groups n is = omega (arith, less, is)

-- one part more fills the row
more_filling : (derived : Derived) (counts : Counts) (p : Piece) → IsFilling derived counts → IsFewer derived counts → next_part derived counts ≡ part_of p → IsFilling (with_piece derived p) counts
more_filling derived counts (piece.Factor f) filling fewer is =
    let few = factor_few derived counts is in
    let long = length-append derived.factors (f ∷ []) in record {
      few_factors = omega (arith, few, long);
      few_groups = filling.few_groups;
      few_entries = filling.few_entries;
      groups_after = λ some. absurd (omega (arith, few, filling.groups_after some));
      entries_after = λ some. absurd (omega (arith, few, (filling.entries_after some).0));
    }
more_filling derived counts (piece.Group g) filling fewer is =
    let few = group_few derived counts is in
    let long = length-append derived.groups (g ∷ []) in record {
      few_factors = filling.few_factors;
      few_groups = omega (arith, few.1, long);
      few_entries = filling.few_entries;
      groups_after = λ some. omega (arith, few.0, filling.few_factors);
      entries_after = λ some. absurd (omega (arith, few.1, (filling.entries_after some).1));
    }
more_filling derived counts (piece.Entry e) filling fewer is =
    let few = entry_few derived counts is in
    let long = length-append derived.entries (e ∷ []) in record {
      few_factors = filling.few_factors;
      few_groups = filling.few_groups;
      few_entries = entry_room derived counts filling fewer few.0 few.1 (length (derived.entries ++ e ∷ [])) long;
      groups_after = λ some. omega (arith, few.0, filling.few_factors);
      entries_after = λ some. (omega (arith, few.0, filling.few_factors), omega (arith, few.1, filling.few_groups));
    }

pub piece_filling : (slots rows : ℕ) (derived : Derived) (counts : Counts) (p : Piece) → IsFilling derived counts → IsFewer derived counts → IsNextPiece slots rows derived (next_part derived counts) p → IsFilling (with_piece derived p) counts
piece_filling slots rows derived counts p filling fewer next = more_filling derived counts p filling fewer (part_is derived (next_part derived counts) p next.follows)

-- the lines of a row with one part more
more_lines : (derived : Derived) (counts : Counts) (p : Piece) → IsFilling derived counts → next_part derived counts ≡ part_of p → part_lines (with_piece derived p) ≡ part_lines derived ++ piece_line p ∷ []
more_lines derived counts (piece.Factor f) filling is =
    let few = factor_few derived counts is in
    let groups : derived.groups ≡ [] = nothing derived.groups (no_length (length derived.groups) (λ some. omega (arith, few, filling.groups_after some))) in
    let entries : derived.entries ≡ [] = nothing derived.entries (no_length (length derived.entries) (λ some. omega (arith, few, (filling.entries_after some).0))) in
    let empty : map group_line derived.groups ++ map entry_line derived.entries ≡ [] = rw (groups, entries) refl in
    ap (λ w. map factor_line (derived.factors ++ f ∷ []) ++ w) empty ∙ append-nil (map factor_line (derived.factors ++ f ∷ [])) ∙ map-append factor_line derived.factors (f ∷ [])
    ∙ ap (λ w. w ++ factor_line f ∷ []) (sym (ap (λ w. map factor_line derived.factors ++ w) empty ∙ append-nil (map factor_line derived.factors)))
more_lines derived counts (piece.Group g) filling is =
    let few = group_few derived counts is in
    let entries : derived.entries ≡ [] = nothing derived.entries (no_length (length derived.entries) (λ some. omega (arith, few.1, (filling.entries_after some).1))) in
    let empty : map entry_line derived.entries ≡ [] = ap (map entry_line) entries in
    let fs : List TailLine = map factor_line derived.factors in
    let gs : List TailLine = map group_line derived.groups in
    ap (λ w. fs ++ (map group_line (derived.groups ++ g ∷ []) ++ w)) empty ∙ ap (λ w. fs ++ w) (append-nil (map group_line (derived.groups ++ g ∷ [])) ∙ map-append group_line derived.groups (g ∷ []))
    ∙ sym (append_assoc fs gs (group_line g ∷ [])) ∙ ap (λ w. (fs ++ w) ++ group_line g ∷ []) (sym (ap (λ w. gs ++ w) empty ∙ append-nil gs))
more_lines derived counts (piece.Entry e) filling is =
    let fs : List TailLine = map factor_line derived.factors in
    let gs : List TailLine = map group_line derived.groups in
    let es : List TailLine = map entry_line derived.entries in
    ap (λ w. fs ++ (gs ++ w)) (map-append entry_line derived.entries (e ∷ [])) ∙ ap (λ w. fs ++ w) (sym (append_assoc gs es (entry_line e ∷ []))) ∙ sym (append_assoc fs (gs ++ es) (entry_line e ∷ []))

pub piece_lines : (slots rows : ℕ) (derived : Derived) (counts : Counts) (p : Piece) → IsFilling derived counts → IsNextPiece slots rows derived (next_part derived counts) p → part_lines (with_piece derived p) ≡ part_lines derived ++ piece_line p ∷ []
piece_lines slots rows derived counts p filling next = more_lines derived counts p filling (part_is derived (next_part derived counts) p next.follows)

-- the number of parts left falls
pub piece_less : (derived : Derived) (p : Piece) → length (with_piece derived p).factors + length (with_piece derived p).groups + length (with_piece derived p).entries ≡ length derived.factors + length derived.groups + length derived.entries + 1
piece_less derived (piece.Factor f) = omega (arith, length-append derived.factors (f ∷ []))
piece_less derived (piece.Group g) = omega (arith, length-append derived.groups (g ∷ []))
piece_less derived (piece.Entry e) = omega (arith, length-append derived.entries (e ∷ []))

-- the same row but for its parts
pub piece_head : (old derived : Derived) (p : Piece) → HasHead old derived → HasHead old (with_piece derived p)
piece_head old derived (piece.Factor f) head = record { divisor = head.divisor; rest = head.rest; up = head.up; down = head.down }
piece_head old derived (piece.Group g) head = record { divisor = head.divisor; rest = head.rest; up = head.up; down = head.down }
piece_head old derived (piece.Entry e) head = record { divisor = head.divisor; rest = head.rest; up = head.up; down = head.down }

-- ---- the first part and the last

-- a row without parts keeps their ranges
pub none_kept : (slots rows : ℕ) (derived : Derived) → HasNoParts derived → ArePartsKept slots rows derived
none_kept slots rows derived none = record {
  factors = rw none.factors (λ k d within. absurd (omega arith));
  ascending = rw none.factors (λ k within. absurd (omega arith));
  groups = rw none.groups (λ k d within. absurd (omega arith));
  entries = rw none.entries (record {
    count = λ k d within. absurd (omega arith);
    bounded = record { named = λ k d within. absurd (omega arith); ascending = λ k within. absurd (omega arith); fixed_small = λ k d within. absurd (omega arith); per_small = λ k d within. absurd (omega arith) };
  });
}

pub none_filling : (derived : Derived) (counts : Counts) → HasNoParts derived → IsFilling derived counts
none_filling derived counts none =
    let factors : length derived.factors ≡ 0 = ap length none.factors in
    let groups : length derived.groups ≡ 0 = ap length none.groups in
    let entries : length derived.entries ≡ 0 = ap length none.entries in
    record { few_factors = omega (arith, factors); few_groups = omega (arith, groups); few_entries = omega (arith, entries); groups_after = λ some. absurd (omega (arith, groups)); entries_after = λ some. absurd (omega (arith, entries)) }

pub none_lines : (derived : Derived) → HasNoParts derived → part_lines derived ≡ []
none_lines derived none = rw (none.factors, none.groups, none.entries) refl

-- a row that has no fewer parts than it is to have
pub all_parts : (derived : Derived) (counts : Counts) → IsFilling derived counts → ¬ IsFewer derived counts → counts_of derived ≡ counts
all_parts derived counts filling all =
    let factors : length derived.factors ≡ counts.factors = equal_by (length derived.factors) counts.factors filling.few_factors (λ less. all (inl less)) in
    let groups : length derived.groups ≡ counts.groups = equal_by (length derived.groups) counts.groups filling.few_groups (λ less. all (inr (inl less))) in
    let entries : length derived.entries ≡ counts.entries = equal_by (length derived.entries) counts.entries filling.few_entries (λ less. all (inr (inr less))) in
    let made : ℕ → ℕ → ℕ → Counts = λ f g e. record { factors = f; groups = g; entries = e } in
    ap (λ f. made f (length derived.groups) (length derived.entries)) factors ∙ ap (λ g. made counts.factors g (length derived.entries)) groups ∙ ap (made counts.factors counts.groups) entries
