-- Behind a head stands one list of derivations, and where it does, no defect of one.
use Rattle.std.proofs.Common.{◌≡◌, inl, inr, ℕ, ◌+◌, ◌<◌, ◌≤◌, true, false, List, [], ◌∷◌, ◌++◌, length, length-append, map, drop, get_or, Option, None, refl, sym, ap, ap₂, ◌∙◌, subst, arith, append_assoc, append-nil, ℤ}
use Rattle.std.specs.Prelude.{nat_le, nat_lt, unsigned_abs}
use Rattle.std.specs.List.{All}
use Rattle.std.specs.List.Sorted.{IsStrictlyIncreasing}
use Rattle.std.proofs.lemmas.Bool.Decides.{nat_tests}
use Rattle.std.proofs.Math.Seq.{get_or-append_seam}
use Rattle.std.proofs.lemmas.List.{length-map, map-append}
use Rattle.std.proofs.lemmas.Bool.{cases_lt}
use Rattle.row_kit.specs.Row.{is_nothing}
use Rattle.derived_rows.specs.Shown.{IsFactor}
use Rattle.std.proofs.lemmas.List.Elements.{All-append, All-cons, All-head, All-map, All-nil}
use Rattle.log_lines.specs.declared.grammar.Limits.{Limits}
use Rattle.log_lines.specs.declared.defect.Defect.{Defect}
use Rattle.log_lines.specs.Grammar.{follows}
use Rattle.row_kit.specs.declared.row.Entry.{Entry}
use Rattle.derived_rows.specs.declared.derived.Derived.{Derived}
use Rattle.derived_rows.specs.declared.derived.Factor.{Factor}
use Rattle.derived_rows.specs.declared.derived.Group.{Group}
use Rattle.derived_rows.specs.declared.derived.Members.{Members}
use Rattle.derived_rows.specs.declared.derived.Members.TheVariants.{One, OfRow}
use Rattle.derivations.specs.declared.derivation.Derivation.{Derivation}
use Rattle.derivations.specs.declared.derivation.Derivation.TheVariants.{Cut, Row}
use Rattle.derivations.specs.Growth.{rows_of}
use Rattle.sum_slots.proofs.Joined.{All-second}
use Rattle.sum_lines.specs.declared.head.Head.{Head}
use Rattle.sum_lines.specs.Front.{BeginsWith}
use Rattle.sum_lines.proofs.Feeds.{line_late}
use Rattle.derivation_lines.specs.declared.line.TailLine.{TailLine}
use Rattle.derivation_lines.specs.declared.line.TailLine.TheVariants as line
use Rattle.derivation_lines.specs.declared.tail.Counts.{Counts}
use Rattle.derivation_lines.specs.declared.tail.Part.{Part}
use Rattle.derivation_lines.specs.declared.tail.Part.TheVariants as part
use Rattle.derivation_lines.specs.declared.tail.Tail.{Tail}
use Rattle.derivation_lines.specs.Front.{IsBadAt, IsBadAtStart, IsBadInRow, IsBadPart, IsBadTail, IsFewer, IsFilling, IsTailed, MayBegin, MayFollow, NoneFirst, beginning_defect, next_part, part_defect, row_defect, slot_defect}
use Rattle.derivation_lines.specs.Line.{IsTailLine, tail_line_text}
use Rattle.derivation_lines.specs.Tail.{AreKeptAfter, AreNamed, ArePartsKept, IsDerivationKept, IsNamedGroup, counts_of, derivation_lines, entry_line, factor_line, group_line, has_row_room, lines_of, lines_text, part_lines, row_line, row_lines, tail_of}
use Rattle.derivation_lines.proofs.LineTexts.{lines_text-append}
use Rattle.derivation_lines.proofs.NextLines.{first_same}
use Rattle.valid_log.proofs.Fronts.{AreSmall}
use Rattle.valid_log.proofs.TailLines.{HasMoreLines, begin_written, decode, decode_open, entry_one, factor_one, follow_written, follows_number, fronts-same, group_one, heads_of, line_front, lines_split, next-item, no_lines, rows_last, slots_last}

-- ---- derivations that are kept

-- the first line of a derivation
abbrev first_of : Derivation → TailLine
first_of (Cut cut) = line.Cut cut.row cut.slot
first_of (Row derived) = row_line derived (counts_of derived)

abbrev rest_of : Derivation → List TailLine
rest_of (Cut cut) = []
rest_of (Row derived) = part_lines derived

first_rest : (d : Derivation) → derivation_lines d ≡ first_of d ∷ rest_of d
first_rest (Cut cut) = refl
first_rest (Row derived) = refl

-- a number below another is not far
not_far : (n m : ℕ) → n < m → nat_le m n ≡ false
not_far n m less = grind (arith, nat_tests)

module _ (limits : Limits) (few : AreSmall limits) where
  -- a factor's line may be written
  factor_written : (rows : ℕ) (factor : Factor) → rows ≤ 404096 → (factor.row < rows) × (1 ≤ unsigned_abs factor.by) × (unsigned_abs factor.by ≤ 1000000) → IsTailLine (factor_line factor)
  factor_written rows factor most is = (omega (arith, is.0), (is.1, is.2))

  -- so may a group's
  members_written : (rows : ℕ) (members : Members) (shift : ℤ) → rows ≤ 404096 → IsNamedGroup limits.slots rows (record { members = members; shift = shift }) → IsTailLine (group_line (record { members = members; shift = shift }))
  members_written rows (One slot) shift most is = (omega (arith, few.slots, is.there), is.small)
  members_written rows (OfRow row) shift most is = (omega (arith, most, is.there), is.small)

  -- so may those of the parts of a derived row
  parts_written : (rows : ℕ) (derived : Derived) → rows ≤ 404096 → ArePartsKept limits.slots rows derived → All IsTailLine (part_lines derived)
  parts_written rows derived most kept =
      All-append IsTailLine (map factor_line derived.factors) (map group_line derived.groups ++ map entry_line derived.entries)
      (All-map IsTailLine factor_line derived.factors (λ k d h. let is = kept.factors k d h in factor_written rows (get_or derived.factors k d) most (is.row, is.some, is.small)))
      (All-append IsTailLine (map group_line derived.groups) (map entry_line derived.entries)
      (All-map IsTailLine group_line derived.groups (λ k d h. let group = get_or derived.groups k d in members_written rows group.members group.shift most (kept.groups k d h)))
      (All-map IsTailLine entry_line derived.entries (λ k d h. (omega (arith, few.slots, kept.entries.bounded.named k d h), kept.entries.bounded.fixed_small k d h, kept.entries.bounded.per_small k d h, kept.entries.count k d h))))

  -- there is room for a derived row: so few stand before it
  room_few : (before : ℕ) → has_row_room limits (before + 1) ≡ true → before + 1 ≤ 4096
  room_few before is = grind (arith, nat_tests)

  -- the lines of a derivation that is kept may be written
  derivation_written : (before : ℕ) (d : Derivation) → before ≤ 4096 → IsDerivationKept limits before d → All IsTailLine (derivation_lines d)
  derivation_written before (Cut cut) most kept = All-cons IsTailLine (line.Cut cut.row cut.slot) [] (omega (arith, few.rows, most, kept.0), omega (arith, few.slots, kept.1)) (All-nil IsTailLine)
  derivation_written before (Row derived) most kept =
      All-cons IsTailLine (row_line derived (counts_of derived)) (part_lines derived) kept.0.line (parts_written (limits.rows + before) derived (omega (arith, few.rows, most)) kept.0.parts)

  -- few derived rows stand before the next derivation
  few_after : (before : ℕ) (d : Derivation) → before ≤ 4096 → IsDerivationKept limits before d → before + rows_of (d ∷ []) ≤ 4096
  few_after before (Cut cut) most kept = omega (arith, most)
  few_after before (Row derived) most kept = omega (arith, room_few before kept.1)

  -- so may all their lines
  all_written : (before : ℕ) (ds : List Derivation) → before ≤ 4096 → AreKeptAfter limits before ds → All IsTailLine (lines_of ds)
  all_written before [] most kept = All-nil IsTailLine
  all_written before (d ∷ ds) most kept =
      All-append IsTailLine (derivation_lines d) (lines_of ds) (derivation_written before d most kept.0) (all_written (before + rows_of (d ∷ [])) ds (few_after before d most kept.0) kept.1)

  -- derivations that are kept are so behind others
  kept_behind : (before : ℕ) (xs ys : List Derivation) → before ≤ 4096 → AreKeptAfter limits before (xs ++ ys) → AreKeptAfter limits (before + rows_of xs) ys × (before + rows_of xs ≤ 4096)
  kept_behind before [] ys most kept = let e : before ≡ before + 0 = omega arith in (subst (λ n. AreKeptAfter limits n ys) e kept, omega arith)
  kept_behind before (Cut cut ∷ xs) ys most kept =
      let more = kept_behind (before + 0) xs ys (omega arith) kept.1 in
      let e : before + 0 + rows_of xs ≡ before + rows_of xs = omega arith in
      (subst (λ n. AreKeptAfter limits n ys) e more.0, omega (arith, more.1))
  kept_behind before (Row derived ∷ xs) ys most kept =
      let more = kept_behind (before + 1) xs ys (room_few before kept.0.1) kept.1 in
      let e : before + 1 + rows_of xs ≡ before + (1 + rows_of xs) = omega arith in
      (subst (λ n. AreKeptAfter limits n ys) e more.0, omega (arith, more.1))

  -- it may begin one
  may_begin : (before : ℕ) (d : Derivation) → before ≤ 4096 → IsDerivationKept limits before d → MayBegin limits.slots (first_of d)
  may_begin before (Cut cut) most kept = (omega (arith, few.rows, most, kept.0), omega (arith, few.slots, kept.1))
  may_begin before (Row derived) most kept = (kept.0.line, kept.0.few_entries)

  -- and has no defect
  begins_well : (before : ℕ) (d : Derivation) → IsDerivationKept limits before d → beginning_defect limits before (first_of d) ≡ None
  begins_well before (Cut cut) kept = rw (not_far cut.row (limits.rows + before) kept.0, not_far cut.slot limits.slots kept.1) refl
  begins_well before (Row derived) kept = rw kept.1 refl

  -- the text of derivations begins with the first line of the first
  derivation_front : (d : Derivation) (ds : List Derivation) (rest : List ℕ) → lines_text (lines_of (d ∷ ds)) ++ rest ≡ tail_line_text (first_of d) ++ 10 ∷ (lines_text (rest_of d ++ lines_of ds) ++ rest)
  derivation_front d ds rest = ap (λ (ls : List TailLine). lines_text (ls ++ lines_of ds) ++ rest) (first_rest d) ∙ line_front (first_of d) (rest_of d ++ lines_of ds) rest

  -- no line that may begin a derivation stands first, so none does
  none_begin : (before : ℕ) (ds : List Derivation) (x y : List ℕ) → before ≤ 4096 → AreKeptAfter limits before ds → NoneFirst (MayBegin limits.slots) x → x ≡ lines_text (lines_of ds) ++ y → ds ≡ []
  none_begin before [] x y most kept none is = refl
  none_begin before (d ∷ ds) x y most kept none is = absurd (none (first_of d) (may_begin before d most kept.0) (record { after = _; is = is ∙ derivation_front d ds y }))

-- ---- the next part of an open row

no_items : {X : Type 0} (xs : List X) → (0 < length xs → ⊥) → xs ≡ []
no_items [] none = refl
no_items (x ∷ xs) none = absurd (none (omega arith))

module _ (limits : Limits) (few : AreSmall limits) where
  -- the line that comes next, which follows and has no defect
  record HasGoodNext (rows : ℕ) (a : Derived) (m : Counts) (more : List TailLine) : Type 0 where
    next : TailLine
    after : List TailLine
    rest : more ≡ next ∷ after
    may_follow : MayFollow a (next_part a m) next
    written : IsTailLine next
    well : part_defect limits.slots rows next ≡ None

  row_there : (rows row : ℕ) → row < rows → row_defect rows row ≡ None
  row_there rows row less = rw (not_far row rows less) refl

  slot_there : (slots slot : ℕ) → slot < slots → slot_defect slots slot ≡ None
  slot_there slots slot less = rw (not_far slot slots less) refl

  -- where a factor comes next
  factor_next : (rows : ℕ) (r a : Derived) (m : Counts) (x more : List TailLine) → rows ≤ 404096 → ArePartsKept limits.slots rows r → m ≡ counts_of r → IsFilling a m → length a.factors < m.factors → part_lines r ++ x ≡ part_lines a ++ more
      → HasGoodNext rows a m more
  factor_next rows r a m x more most kept same filling less lines =
      let groups = no_items a.groups (λ some. omega (arith, filling.groups_after some, less)) in
      let entries = no_items a.entries (λ some. omega (arith, (filling.entries_after some).0, less)) in
      let fr = map factor_line r.factors in
      let fa = map factor_line a.factors in
      let bare : (map group_line a.groups ++ map entry_line a.entries) ++ more ≡ more = ap₂ (λ (gs : List Group) (es : List Entry). (map group_line gs ++ map entry_line es) ++ more) groups entries in
      let opened = sym (append_assoc fr (map group_line r.groups ++ map entry_line r.entries) x) ∙ lines ∙ append_assoc fa (map group_line a.groups ++ map entry_line a.entries) more ∙ ap (λ w. fa ++ w) bare in
      let count : m.factors ≡ length r.factors = ap (λ (c : Counts). c.factors) same in
      let found = next-item factor_line factor_one a.factors r.factors ((map group_line r.groups ++ map entry_line r.entries) ++ x) more (omega (arith, less, count)) opened in
      let f = found.item in
      let is = All-head (IsFactor rows) f found.later (All-second (IsFactor rows) a.factors (f ∷ found.later) (subst (All (IsFactor rows)) found.are kept.factors)) in
      let up = subst (λ (fs : List Factor). IsStrictlyIncreasing (map (λ (g : Factor). g.row) fs)) found.are kept.ascending in
      let up2 = subst IsStrictlyIncreasing (map-append (λ (g : Factor). g.row) a.factors (f ∷ found.later)) up in
      let written = factor_written limits few rows f most (is.row, is.some, is.small) in
      let above = ap (λ (o : Option ℕ). follows o f.row) (rows_last None a.factors) ∙ follows_number None (map (λ (g : Factor). g.row) a.factors) f.row (map (λ (g : Factor). g.row) found.later) up2 (λ first rest e. refl) in
      let next : next_part a m ≡ part.Factor = (let t : nat_lt (length a.factors) m.factors ≡ true = grind (arith, nat_tests) in rw t refl) in
      record {
        next = factor_line f;
        after = found.after;
        rest = found.rest;
        may_follow = subst (λ (p : Part). MayFollow a p (factor_line f)) (sym next) (written, above);
        written = written;
        well = row_there rows f.row is.row;
      }

  -- where a group does
  group_follows : (rows : ℕ) (a : Derived) (members : Members) (shift : ℤ) → IsTailLine (group_line (record { members = members; shift = shift })) → MayFollow a part.Group (group_line (record { members = members; shift = shift }))
  group_follows rows a (One slot) shift written = written
  group_follows rows a (OfRow row) shift written = written

  group_there : (rows : ℕ) (members : Members) (shift : ℤ) → AreNamed limits.slots rows members → part_defect limits.slots rows (group_line (record { members = members; shift = shift })) ≡ None
  group_there rows (One slot) shift there = slot_there limits.slots slot there
  group_there rows (OfRow row) shift there = row_there rows row there

  group_next : (rows : ℕ) (r a : Derived) (m : Counts) (x more : List TailLine) → rows ≤ 404096 → ArePartsKept limits.slots rows r → m ≡ counts_of r → IsFilling a m → m.factors ≤ length a.factors → length a.groups < m.groups → part_lines r ++ x ≡ part_lines a ++ more
      → HasGoodNext rows a m more
  group_next rows r a m x more most kept same filling all less lines =
      let entries = no_items a.entries (λ some. omega (arith, (filling.entries_after some).1, less)) in
      let fr = map factor_line r.factors in
      let fa = map factor_line a.factors in
      let gr = map group_line r.groups in
      let ga = map group_line a.groups in
      let er = map entry_line r.entries in
      let factors : m.factors ≡ length r.factors = ap (λ (c : Counts). c.factors) same in
      let count : m.groups ≡ length r.groups = ap (λ (c : Counts). c.groups) same in
      let long : length fr ≡ length fa = omega (arith, factors, all, filling.few_factors, length-map r.factors factor_line, length-map a.factors factor_line) in
      let behind = fronts-same fr fa ((gr ++ er) ++ x) ((ga ++ map entry_line a.entries) ++ more) long (sym (append_assoc fr (gr ++ er) x) ∙ lines ∙ append_assoc fa (ga ++ map entry_line a.entries) more) in
      let bare : (ga ++ map entry_line a.entries) ++ more ≡ ga ++ more = ap (λ (es : List Entry). (ga ++ map entry_line es) ++ more) entries ∙ append_assoc ga [] more in
      let found = next-item group_line group_one a.groups r.groups (er ++ x) more (omega (arith, less, count)) (sym (append_assoc gr er x) ∙ behind.1 ∙ bare) in
      let g = found.item in
      let is = All-head (IsNamedGroup limits.slots rows) g found.later (All-second (IsNamedGroup limits.slots rows) a.groups (g ∷ found.later) (subst (All (IsNamedGroup limits.slots rows)) found.are kept.groups)) in
      let written = members_written limits few rows g.members g.shift most is in
      let next : next_part a m ≡ part.Group = (let t : nat_lt (length a.factors) m.factors ≡ false = grind (arith, nat_tests) in let u : nat_lt (length a.groups) m.groups ≡ true = grind (arith, nat_tests) in rw (t, u) refl) in
      record {
        next = group_line g;
        after = found.after;
        rest = found.rest;
        may_follow = subst (λ (p : Part). MayFollow a p (group_line g)) (sym next) (group_follows rows a g.members g.shift written);
        written = written;
        well = group_there rows g.members g.shift is.there;
      }

  -- where an entry does
  entry_next : (rows : ℕ) (r a : Derived) (m : Counts) (x more : List TailLine) → ArePartsKept limits.slots rows r → m ≡ counts_of r → IsFilling a m → m.factors ≤ length a.factors → m.groups ≤ length a.groups → length a.entries < m.entries
      → part_lines r ++ x ≡ part_lines a ++ more → HasGoodNext rows a m more
  entry_next rows r a m x more kept same filling all all2 less lines =
      let fr = map factor_line r.factors in
      let fa = map factor_line a.factors in
      let gr = map group_line r.groups in
      let ga = map group_line a.groups in
      let er = map entry_line r.entries in
      let ea = map entry_line a.entries in
      let factors : m.factors ≡ length r.factors = ap (λ (c : Counts). c.factors) same in
      let groups : m.groups ≡ length r.groups = ap (λ (c : Counts). c.groups) same in
      let count : m.entries ≡ length r.entries = ap (λ (c : Counts). c.entries) same in
      let long : length fr ≡ length fa = omega (arith, factors, all, filling.few_factors, length-map r.factors factor_line, length-map a.factors factor_line) in
      let long2 : length gr ≡ length ga = omega (arith, groups, all2, filling.few_groups, length-map r.groups group_line, length-map a.groups group_line) in
      let behind = fronts-same fr fa ((gr ++ er) ++ x) ((ga ++ ea) ++ more) long (sym (append_assoc fr (gr ++ er) x) ∙ lines ∙ append_assoc fa (ga ++ ea) more) in
      let behind2 = fronts-same gr ga (er ++ x) (ea ++ more) long2 (sym (append_assoc gr er x) ∙ behind.1 ∙ append_assoc ga ea more) in
      let found = next-item entry_line entry_one a.entries r.entries x more (omega (arith, less, count)) behind2.1 in
      let e = found.item in
      let named = subst (All (λ (t : Entry). t.slot < limits.slots)) found.are kept.entries.bounded.named in
      let fixed = subst (All (λ (t : Entry). unsigned_abs t.fixed ≤ 10000000)) found.are kept.entries.bounded.fixed_small in
      let per = subst (All (λ (t : Entry). unsigned_abs t.per ≤ 10000000)) found.are kept.entries.bounded.per_small in
      let counts = subst (All (λ (t : Entry). is_nothing (t.fixed, t.per) ≡ false)) found.are kept.entries.count in
      let here : length a.entries < length (a.entries ++ e ∷ found.later) = omega (arith, length-append a.entries (e ∷ found.later)) in
      let at : get_or (a.entries ++ e ∷ found.later) (length a.entries) e ≡ e = get_or-append_seam a.entries e found.later e in
      let there : e.slot < limits.slots = subst (λ (t : Entry). t.slot < limits.slots) at (named (length a.entries) e here) in
      let up = subst (λ (es : List Entry). IsStrictlyIncreasing (map (λ (t : Entry). t.slot) es)) found.are kept.entries.bounded.ascending in
      let up2 = subst IsStrictlyIncreasing (map-append (λ (t : Entry). t.slot) a.entries (e ∷ found.later)) up in
      let written : IsTailLine (entry_line e) = (
        omega (arith, few.slots, there),
        subst (λ (t : Entry). unsigned_abs t.fixed ≤ 10000000) at (fixed (length a.entries) e here),
        subst (λ (t : Entry). unsigned_abs t.per ≤ 10000000) at (per (length a.entries) e here),
        subst (λ (t : Entry). is_nothing (t.fixed, t.per) ≡ false) at (counts (length a.entries) e here),
      ) in
      let above = ap (λ (o : Option ℕ). follows o e.slot) (slots_last None a.entries) ∙ follows_number None (map (λ (t : Entry). t.slot) a.entries) e.slot (map (λ (t : Entry). t.slot) found.later) up2 (λ first rest e. refl) in
      let next : next_part a m ≡ part.Entry = (let t : nat_lt (length a.factors) m.factors ≡ false = grind (arith, nat_tests) in let u : nat_lt (length a.groups) m.groups ≡ false = grind (arith, nat_tests) in rw (t, u) refl) in
      record {
        next = entry_line e;
        after = found.after;
        rest = found.rest;
        may_follow = subst (λ (p : Part). MayFollow a p (entry_line e)) (sym next) (written, above);
        written = written;
        well = slot_there limits.slots e.slot there;
      }

  -- which of them comes next
  good_next : (rows : ℕ) (r a : Derived) (m : Counts) (x more : List TailLine) → rows ≤ 404096 → ArePartsKept limits.slots rows r → m ≡ counts_of r → IsFilling a m → IsFewer a m → part_lines r ++ x ≡ part_lines a ++ more → HasGoodNext rows a m more
  good_next rows r a m x more most kept same filling fewer lines = elim (cases_lt (length a.factors) m.factors) [
    | inl less ↦ factor_next rows r a m x more most kept same filling less lines
    | inr all ↦ elim (cases_lt (length a.groups) m.groups) [
      | inl less ↦ group_next rows r a m x more most kept same filling all less lines
      | inr all2 ↦ entry_next rows r a m x more kept same filling all all2 (last_less fewer all all2) lines
    ]
  ]
    where
      last_less : IsFewer a m → m.factors ≤ length a.factors → m.groups ≤ length a.groups → length a.entries < m.entries
      last_less (inl less) all all2 = absurd (omega (arith, less, all))
      last_less (inr (inl less)) all all2 = absurd (omega (arith, less, all2))
      last_less (inr (inr less)) all all2 = less

  -- a line that follows and is well is no defect
  no_bad_part : (rows : ℕ) (a : Derived) (next : Part) (l : TailLine) (rest after : List ℕ) (kind : ℕ) → IsTailLine l → MayFollow a next l → part_defect limits.slots rows l ≡ None → rest ≡ tail_line_text l ++ 10 ∷ after
      → IsBadPart limits.slots rows a next rest kind → ⊥
  no_bad_part rows a next l rest after kind written may well is (inl cut) = line_late (tail_line_text l) rest after is cut.1
  no_bad_part rows a next l rest after kind written may well is (inr (inl none)) = none.2 l may (record { after = after; is = is })
  no_bad_part rows a next l rest after kind written may well is (inr (inr far)) =
      let same = first_same far.line l rest after (follow_written a next far.line far.may_follow) written is far.first in
      let e = sym (ap (part_defect limits.slots rows) same) ∙ far.far in
      let f = sym e ∙ well in
      absurd cc

  -- ---- one tail

  -- two lists of derivations of the same bytes are the same
  pub tails_same : (head : Head) (bytes : List ℕ) (s t : Tail) → IsTailed limits head bytes s → IsTailed limits head bytes t → s ≡ t
  tails_same head bytes s t is is2 =
      let x = drop s.bytes bytes in
      let y = drop t.bytes bytes in
      let of_s = is.kept.derivations in
      let of_t = is2.kept.derivations in
      let same : s.derivations ≡ t.derivations = elim (lines_split (lines_of s.derivations) (lines_of t.derivations) x y (all_written limits few 0 s.derivations (omega arith) of_s) (all_written limits few 0 t.derivations (omega arith) of_t) (sym is.is ∙ is2.is)) [
        | inl has ↦ sym (first_all s.derivations t.derivations x y of_t is.ends has)
        | inr has ↦ first_all t.derivations s.derivations y x of_s is2.ends has
      ] in
      is.kept.is ∙ ap (tail_of head) same ∙ sym is2.kept.is
    where
      first_all : (xs ys : List Derivation) (x y : List ℕ) → AreKeptAfter limits 0 ys → NoneFirst (MayBegin limits.slots) x → HasMoreLines (lines_of xs) (lines_of ys) x y → ys ≡ xs
      first_all xs ys x y kept none has =
          let m = decode xs ys has.more has.are in
          let later = kept_behind limits few 0 xs m.later (omega arith) (subst (AreKeptAfter limits 0) m.are kept) in
          let nothing = none_begin limits few (0 + rows_of xs) m.later x y later.1 later.0 none (has.rest ∙ ap (λ (ls : List TailLine). lines_text ls ++ y) m.lines) in
          m.are ∙ ap (λ (w : List Derivation). xs ++ w) nothing ∙ append-nil xs

  -- where derivations stand no defect of one stands behind whole ones
  no_bad_start : (head : Head) (bytes : List ℕ) (t : Tail) (ds : List Derivation) (defect : Defect) → IsTailed limits head bytes t → AreKeptAfter limits 0 ds
      → IsBadAtStart limits (rows_of ds) (1 + head.count) (lines_of ds) (drop head.bytes bytes) defect → ⊥
  no_bad_start head bytes t ds defect is kept bad =
      elim (lines_split (lines_of t.derivations) (lines_of ds) x bad.rest (all_written limits few 0 t.derivations (omega arith) is.kept.derivations) (all_written limits few 0 ds (omega arith) kept) (sym is.is ∙ bad.is)) [
        | inl has ↦
            (let m = decode t.derivations ds has.more has.are in
            let later = kept_behind limits few 0 t.derivations m.later (omega arith) (subst (AreKeptAfter limits 0) m.are kept) in
            let rest = has.rest ∙ ap (λ (ls : List TailLine). lines_text ls ++ bad.rest) m.lines in
            let nothing = none_begin limits few (0 + rows_of t.derivations) m.later x bad.rest later.1 later.0 is.ends rest in
            same_rest (rest ∙ ap (λ (w : List Derivation). lines_text (lines_of w) ++ bad.rest) nothing ∙ no_lines bad.rest))
        | inr has ↦
            (let m = decode ds t.derivations has.more has.are in
            let later = kept_behind limits few 0 ds m.later (omega arith) (subst (AreKeptAfter limits 0) m.are is.kept.derivations) in
            begins m.later later.1 later.0 (has.rest ∙ ap (λ (ls : List TailLine). lines_text ls ++ x) m.lines))
      ]
    where
      x : List ℕ
      x = drop t.bytes bytes

      same_rest : x ≡ bad.rest → ⊥
      same_rest e = is.ends bad.bad.line bad.bad.begins (subst (BeginsWith (tail_line_text bad.bad.line)) (sym e) bad.bad.first)

      begins : (later : List Derivation) → 0 + rows_of ds ≤ 4096 → AreKeptAfter limits (0 + rows_of ds) later → bad.rest ≡ lines_text (lines_of later) ++ x → ⊥
      begins [] most own rest = same_rest (sym (rest ∙ no_lines x))
      begins (d ∷ later) most own rest =
          let first = rest ∙ derivation_front limits few d later x in
          let written = begin_written limits.slots (first_of d) (may_begin limits few (0 + rows_of ds) d most own.0) in
          let same = first_same bad.bad.line (first_of d) bad.rest _ (begin_written limits.slots bad.bad.line bad.bad.begins) written first bad.bad.first in
          let before : 0 + rows_of ds ≡ rows_of ds = omega arith in
          let none = subst (λ (n : ℕ). beginning_defect limits n (first_of d) ≡ None) before (begins_well limits few (0 + rows_of ds) d own.0) in
          let some = sym (ap (beginning_defect limits (rows_of ds)) same) ∙ bad.bad.defect in
          let e = sym some ∙ none in
          absurd cc

  -- nor in an open row
  no_bad_row : (head : Head) (bytes : List ℕ) (t : Tail) (ds : List Derivation) (defect : Defect) → IsTailed limits head bytes t → AreKeptAfter limits 0 ds
      → IsBadInRow limits (rows_of ds) (1 + head.count) (lines_of ds) (drop head.bytes bytes) defect → ⊥
  no_bad_row head bytes t ds defect is kept bad =
      elim (lines_split (lines_of t.derivations) (lines_of ds ++ row) x bad.rest (all_written limits few 0 t.derivations (omega arith) is.kept.derivations)
      (All-append IsTailLine (lines_of ds) row (all_written limits few 0 ds (omega arith) kept) row_written) (sym is.is ∙ bad.is)) [
        | inl has ↦
            (let m = decode_open t.derivations ds bad.derived bad.counts has.more bad.filling bad.fewer has.are in
            let later = kept_behind limits few 0 t.derivations m.later (omega arith) (subst (AreKeptAfter limits 0) m.are kept) in
            too_far m.later later.1 later.0 (has.rest ∙ ap (λ (ls : List TailLine). lines_text ls ++ bad.rest) m.lines))
        | inr has ↦
            (let m = decode ds t.derivations (row ++ has.more) (has.are ∙ append_assoc (lines_of ds) row has.more) in
            let later = kept_behind limits few 0 ds m.later (omega arith) (subst (AreKeptAfter limits 0) m.are is.kept.derivations) in
            whole m.later has.more later.1 later.0 (sym m.lines) has.rest)
      ]
    where
      x : List ℕ
      x = drop t.bytes bytes

      row : List TailLine
      row = row_lines bad.derived bad.counts

      most_rows : limits.rows + rows_of ds ≤ 404096
      most_rows = omega (arith, few.rows, (kept_behind limits few 0 ds [] (omega arith) (subst (AreKeptAfter limits 0) (sym (append-nil ds)) kept)).1)

      opening : IsTailLine (row_line bad.derived bad.counts)
      opening = bad.begins.0

      row_written : All IsTailLine row
      row_written = All-cons IsTailLine (row_line bad.derived bad.counts) (part_lines bad.derived) opening (parts_written limits few (limits.rows + rows_of ds) bad.derived most_rows bad.parts)

      -- no line may begin a derivation where derivations end
      too_far : (later : List Derivation) → 0 + rows_of t.derivations ≤ 4096 → AreKeptAfter limits (0 + rows_of t.derivations) later → x ≡ lines_text (lines_of later ++ row) ++ bad.rest → ⊥
      too_far [] most own rest = is.ends (row_line bad.derived bad.counts) bad.begins (record { after = _; is = rest ∙ line_front (row_line bad.derived bad.counts) (part_lines bad.derived) bad.rest })
      too_far (d ∷ later) most own rest =
          let split = rest ∙ ap (λ (w : List ℕ). w ++ bad.rest) (lines_text-append (lines_of (d ∷ later)) row) ∙ append_assoc (lines_text (lines_of (d ∷ later))) (lines_text row) bad.rest in
          is.ends (first_of d) (may_begin limits few (0 + rows_of t.derivations) d most own.0) (record { after = _; is = split ∙ derivation_front limits few d later (lines_text row ++ bad.rest) })

      -- the row that is open is one of the derivations, whose next part is well
      whole : (later : List Derivation) (more : List TailLine) → 0 + rows_of ds ≤ 4096 → AreKeptAfter limits (0 + rows_of ds) later → lines_of later ≡ row ++ more → bad.rest ≡ lines_text more ++ x → ⊥
      whole [] more most own lines rest = cc
      whole (Cut cut ∷ later) more most own lines rest = let first : line.Cut cut.row cut.slot ≡ row_line bad.derived bad.counts = ap (λ l. get_or l 0 (line.Cut cut.row cut.slot)) lines in cc
      whole (Row r ∷ later) more most own lines rest =
          let heads = heads_of r bad.derived (counts_of r) bad.counts (ap (λ l. get_or l 0 (row_line r (counts_of r))) lines) in
          let counts : bad.counts ≡ counts_of r = λ i. record { factors = sym heads.factors i; groups = sym heads.groups i; entries = sym heads.entries i } in
          let before : limits.rows + (0 + rows_of ds) ≡ limits.rows + rows_of ds = omega arith in
          let parts = subst (λ (n : ℕ). ArePartsKept limits.slots n r) before own.0.0.parts in
          let next = good_next (limits.rows + rows_of ds) r bad.derived bad.counts (lines_of later) more most_rows parts counts bad.filling bad.fewer (ap (drop 1) lines) in
          let text = rest ∙ ap (λ (ls : List TailLine). lines_text ls ++ x) next.rest ∙ line_front next.next next.after x in
          no_bad_part (limits.rows + rows_of ds) bad.derived (next_part bad.derived bad.counts) next.next bad.rest (lines_text next.after ++ x) defect.kind next.written next.may_follow next.well text bad.bad

  -- bytes with derivations behind a head have no defect of one there
  pub tail_sound : (head : Head) (bytes : List ℕ) (t : Tail) (defect : Defect) → IsTailed limits head bytes t → IsBadTail limits head bytes defect → ⊥
  tail_sound head bytes t defect is bad = at bad.bad
    where
      at : IsBadAt limits (rows_of bad.derivations) (1 + head.count) (lines_of bad.derivations) (drop head.bytes bytes) defect → ⊥
      at (inl here) = no_bad_start head bytes t bad.derivations defect is bad.kept here
      at (inr here) = no_bad_row head bytes t bad.derivations defect is bad.kept here
