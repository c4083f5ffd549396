-- What the function of the derivations' lines finds is their first defect.
use Rattle.std.proofs.Common.{◌≡◌, ℕ, ◌+◌, ◌<◌, ◌≤◌, Bool, true, false, cond, ltb, leb, ◌||◌, ◌==◌, List, [], ◌∷◌, ◌++◌, length, length-append, Option, Some, None, refl, sym, ap, ◌∙◌, subst, arith, append_assoc, inl, inr, ◌⊎◌}
use Rattle.std.specs.Prelude.{drop}
use Rattle.std.specs.Option.{option_map_or}
use Rattle.std.proofs.lemmas.Bool.{cond-false, cond-true, leb-false, leb-true, true≢false, ltb-false, ltb-true, or_cases}
use Rattle.log_lines.specs.declared.defect.Defect.{Defect}
use Rattle.log_lines.specs.declared.grammar.Limits.{Limits}
use Rattle.log_lines.specs.Reader.{HasNoFeed}
use Rattle.range_prop.specs.declared.row_cut.RowCut.{RowCut}
use Rattle.derived_rows.specs.declared.derived.Derived.{Derived}
use Rattle.derived_rows.specs.declared.derived.Members.TheVariants.{One, OfRow}
use Rattle.derivations.specs.declared.derivation.Derivation.{Derivation}
use Rattle.derivations.specs.declared.derivation.Derivation.TheVariants.{Cut, Row}
use Rattle.derivations.specs.Growth.{rows_of}
use Rattle.sum_lines.specs.declared.head.Head.{Head}
use Rattle.sum_lines.specs.Front.{EndsEarly}
use Rattle.sum_lines.proofs.Feeds.{begins_line, begins_none, line_late}
use Rattle.derivation_lines.specs.declared.line.TailLine.{TailLine}
use Rattle.derivation_lines.specs.declared.line.TailLine.TheVariants as line
use Rattle.derivation_lines.specs.declared.pieces.Piece.{Piece}
use Rattle.derivation_lines.specs.declared.pieces.Piece.TheVariants as piece
use Rattle.derivation_lines.specs.declared.tail.Counts.{Counts}
use Rattle.derivation_lines.specs.declared.tail.Part.{Part}
use Rattle.derivation_lines.specs.declared.tail.Part.TheVariants as part
use Rattle.derivation_lines.specs.Front.{IsBadPart, IsBadTail, IsFewer, IsFilling, MayBegin, MayFollow, NoneFirst, beginning_defect, next_part, part_defect, slot_defect}
use Rattle.derivation_lines.specs.Line.{IsTailLine, tail_line_text}
use Rattle.derivation_lines.specs.Tail.{AreDerivationsKept, ArePartsKept, IsRowKept, counts_of, cut_line, has_row_room, lines_of, lines_text, part_lines, row_line, row_lines}
use Rattle.derivation_lines.specs.laws.Parts.{HasNoParts, IsNextPiece, piece_line, with_piece}
use Rattle.derivation_lines.proofs.LineTexts.{lines_text-more, lines_text-nil}
use Rattle.derivation_lines.proofs.Lines.{text_fits}
use Rattle.derivation_lines.proofs.PartLines.{all_parts, none_filling, none_kept, piece_filling, piece_kept, piece_lines}
use Rattle.derivation_lines.proofs.TailsRead.{lines_of-more, more_kept, rows_of-more}
use Rattle.head_laws.specs.TailLines.{tail_line_said}
use Rattle.head_laws.specs.TailDefects.{TailDefectsAre, beginning_said, counts_with, is_fewer, may_begin, may_come, open_behind, passed, row_with, rows_behind, tail_defect, tails_defect, with_line}
use Rattle.head_laws.proofs.Parts.{Ahead, Alone, ahead, first_part, not_none, pairs_same, parts_of, some_part}
use Rattle.head_laws.proofs.TailDefects.{fewer_test, follow_written, may_follow, onward, to_function}
use Rattle.head_laws.proofs.TailLinesSaid.{said_is, said_line}

-- a text with one line more
text_more : (lines : List TailLine) (l : TailLine) (bytes rest after : List ℕ) → bytes ≡ lines_text lines ++ rest → rest ≡ tail_line_text l ++ 10 ∷ after → bytes ≡ lines_text (lines ++ l ∷ []) ++ after
text_more lines l bytes rest after is next =
    let one = tail_line_text l ++ 10 ∷ [] in
    is
    ∙ ap (λ (t : List ℕ). lines_text lines ++ t) (next ∙ sym (append_assoc (tail_line_text l) (10 ∷ []) after))
    ∙ sym (append_assoc (lines_text lines) one after)
    ∙ ap (λ (t : List ℕ). t ++ after) (sym (lines_text-more lines l))

-- ---- what lines say

-- a line that passes the test may begin a derivation
begins_is : (slots : ℕ) (l : TailLine) → IsTailLine l → may_begin slots l ≡ true → MayBegin slots l
begins_is slots (line.Cut row slot) is may = is
begins_is slots (line.Row divisor rest up down factors groups entries) is may = (is, leb-true entries slots may)
begins_is slots (line.By _ _) is may = absurd (cc)
begins_is slots (line.Shift _ _) is may = absurd (cc)
begins_is slots (line.Lift _ _) is may = absurd (cc)
begins_is slots (line.Entry _ _ _) is may = absurd (cc)

-- a line that is said and passes a test
passed_tells : (test : TailLine → Bool) (part : List ℕ) (said : Option TailLine) (l : TailLine) → tail_line_said part ≡ said → passed test said ≡ Some l → IsTailLine l × (tail_line_text l ≡ part) × (test l ≡ true)
passed_tells test part None l said is = absurd cc
passed_tells test part (Some own) l said is = at (test own) refl is
  where
    at : (b : Bool) → test own ≡ b → cond b (Some own) None ≡ Some l → IsTailLine l × (tail_line_text l ≡ part) × (test l ≡ true)
    at true passes e =
        let same : own ≡ l = cc in
        let tells = said_is part own said in
        subst (λ (x : TailLine). IsTailLine x × (tail_line_text x ≡ part) × (test x ≡ true)) same (tells.0, tells.1, passes)
    at false fails e = absurd cc

record Beginning (slots : ℕ) (part : List ℕ) (later : ℕ) (l : TailLine) : Type 0 where
  some : 0 < later
  may : MayBegin slots l
  is : tail_line_text l ≡ part

beginning_tells : (slots : ℕ) (part : List ℕ) (later : ℕ) (l : TailLine) → beginning_said slots part later ≡ Some l → Beginning slots part later l
beginning_tells slots part later l is = at (ltb 0 later) refl is
  where
    at : (b : Bool) → ltb 0 later ≡ b → cond b (passed (may_begin slots) (tail_line_said part)) None ≡ Some l → Beginning slots part later l
    at true some e =
        let tells = passed_tells (may_begin slots) part (tail_line_said part) l refl e in
        record { some = ltb-true 0 later some; may = begins_is slots l tells.0 tells.2; is = tells.1 }
    at false none e = absurd cc

-- a line that may follow is that of a piece
record OfPiece (derived : Derived) (l : TailLine) : Type 0 where
  own : Piece
  is : l ≡ piece_line own
  more : with_line derived l ≡ with_piece derived own

of_piece : (derived : Derived) (next : Part) (l : TailLine) → MayFollow derived next l → OfPiece derived l
of_piece derived part.Factor (line.By row by) may = record { own = piece.Factor (record { row = row; by = by }); is = refl; more = refl }
of_piece derived part.Factor (line.Cut _ _) may = absurd may
of_piece derived part.Factor (line.Row _ _ _ _ _ _ _) may = absurd may
of_piece derived part.Factor (line.Shift _ _) may = absurd may
of_piece derived part.Factor (line.Lift _ _) may = absurd may
of_piece derived part.Factor (line.Entry _ _ _) may = absurd may
of_piece derived part.Group (line.By row by) may = absurd may
of_piece derived part.Group (line.Cut _ _) may = absurd may
of_piece derived part.Group (line.Row _ _ _ _ _ _ _) may = absurd may
of_piece derived part.Group (line.Shift row shift) may = record { own = piece.Group (record { members = OfRow row; shift = shift }); is = refl; more = refl }
of_piece derived part.Group (line.Lift slot shift) may = record { own = piece.Group (record { members = One slot; shift = shift }); is = refl; more = refl }
of_piece derived part.Group (line.Entry _ _ _) may = absurd may
of_piece derived part.Entry (line.By row by) may = absurd may
of_piece derived part.Entry (line.Cut _ _) may = absurd may
of_piece derived part.Entry (line.Row _ _ _ _ _ _ _) may = absurd may
of_piece derived part.Entry (line.Shift _ _) may = absurd may
of_piece derived part.Entry (line.Lift _ _) may = absurd may
of_piece derived part.Entry (line.Entry slot fixed per) may = record { own = piece.Entry (record { slot = slot; fixed = fixed; per = per }); is = refl; more = refl }

-- where none is said, no line that may follow stands first
none_follows : (derived : Derived) (next : Part) (part bytes after : List ℕ) → HasNoFeed part → bytes ≡ part ++ 10 ∷ after → passed (may_come derived next) (tail_line_said part) ≡ None → NoneFirst (MayFollow derived next) bytes
none_follows derived next part bytes after plain is none l may first =
    let written = follow_written derived next l may in
    let text = begins_line (tail_line_text l) part bytes after (text_fits l written.0).0 plain is first in
    let said : tail_line_said part ≡ Some l = ap tail_line_said (sym text) ∙ said_line l written.0 in
    let found : cond (may_come derived next l) (Some l) None ≡ None = sym (ap (passed (may_come derived next)) said) ∙ none in
    let here : Some l ≡ None = sym (ap (λ (b : Bool). cond b (Some l) None) written.1) ∙ found in
    absurd cc

-- ---- from line to line

-- the tests tell
fewer_is : (derived : Derived) (counts : Counts) → is_fewer derived counts ≡ true → IsFewer derived counts
fewer_is derived counts passes =
    elim (or_cases (ltb (length derived.factors) counts.factors || ltb (length derived.groups) counts.groups) (ltb (length derived.entries) counts.entries) passes) [
      | inl either ↦
          elim (or_cases (ltb (length derived.factors) counts.factors) (ltb (length derived.groups) counts.groups) either) [
            | inl factors ↦ inl (ltb-true (length derived.factors) counts.factors factors)
            | inr groups ↦ inr (inl (ltb-true (length derived.groups) counts.groups groups))
          ]
      | inr entries ↦ inr (inr (ltb-true (length derived.entries) counts.entries entries))
    ]

not_fewer : (derived : Derived) (counts : Counts) → is_fewer derived counts ≡ false → ¬ IsFewer derived counts
not_fewer derived counts fails fewer = true≢false (sym (fewer_test derived counts fewer) ∙ fails)

-- a row for which there is room
room_is : (limits : Limits) (count : ℕ) → cond {A = Option ℕ} (has_row_room limits count) None (Some 21) ≡ None → has_row_room limits count ≡ true
room_is limits count sound = at (has_row_room limits count) refl sound
  where
    at : (b : Bool) → has_row_room limits count ≡ b → cond {A = Option ℕ} b None (Some 21) ≡ None → has_row_room limits count ≡ true
    at true is e = is
    at false is e = absurd cc

-- a number is below the count where a test finds no defect
below : (count number kind : ℕ) → cond {A = Option ℕ} (leb count number) (Some kind) None ≡ None → number < count
below count number kind sound = at (leb count number) refl sound
  where
    at : (b : Bool) → leb count number ≡ b → cond {A = Option ℕ} b (Some kind) None ≡ None → number < count
    at true far e = absurd cc
    at false near e = leb-false count number near

-- what a cut without a defect names is there
cut_there : (limits : Limits) (before row slot : ℕ) → beginning_defect limits before (line.Cut row slot) ≡ None → (row < limits.rows + before) × (slot < limits.slots)
cut_there limits before row slot sound = at (leb (limits.rows + before) row) refl sound
  where
    at : (b : Bool) → leb (limits.rows + before) row ≡ b → cond {A = Option ℕ} b (Some 4) (slot_defect limits.slots slot) ≡ None → (row < limits.rows + before) × (slot < limits.slots)
    at true far e = absurd cc
    at false near e = (leb-false (limits.rows + before) row near, below limits.slots slot 5 e)

module _ (limits : Limits) (head : Head) (bytes : List ℕ) (on kind : ℕ) where
  abbrev AtBegin : List (List ℕ) → Type 0
  AtBegin parts =
      (ds : List Derivation) (rest : List ℕ) → AreDerivationsKept limits ds → drop head.bytes bytes ≡ lines_text (lines_of ds) ++ rest → parts_of rest ≡ parts
      → tails_defect limits (rows_of ds) None (1 + head.count + length (lines_of ds)) parts ≡ Some (on, kind) → IsBadTail limits head bytes (record { line = on; kind = kind })

  -- a row is open, and its own line has no defect
  record IsOpenRow (ds : List Derivation) (derived : Derived) (counts : Counts) (rest : List ℕ) : Type 0 where
    kept : AreDerivationsKept limits ds
    begins : MayBegin limits.slots (row_line derived counts)
    sound : beginning_defect limits (rows_of ds) (row_line derived counts) ≡ None
    parts : ArePartsKept limits.slots (limits.rows + rows_of ds) derived
    filling : IsFilling derived counts
    is : drop head.bytes bytes ≡ lines_text (lines_of ds ++ row_lines derived counts) ++ rest

  abbrev AtPart : List (List ℕ) → Type 0
  AtPart parts =
      (ds : List Derivation) (derived : Derived) (counts : Counts) (rest : List ℕ) → IsOpenRow ds derived counts rest → IsFewer derived counts → parts_of rest ≡ parts
      → tails_defect limits (rows_of ds) (Some (derived, counts)) (1 + head.count + length (lines_of ds ++ row_lines derived counts)) parts ≡ Some (on, kind) → IsBadTail limits head bytes (record { line = on; kind = kind })

  -- a row goes on, or is whole
  settled : (parts : List (List ℕ)) → AtBegin parts → AtPart parts → (ds : List Derivation) (derived : Derived) (counts : Counts) (rest : List ℕ) → IsOpenRow ds derived counts rest → parts_of rest ≡ parts
      → onward limits (rows_of ds) derived counts (1 + head.count + length (lines_of ds ++ row_lines derived counts)) parts ≡ Some (on, kind) → IsBadTail limits head bytes (record { line = on; kind = kind })
  settled parts begins_later parts_later ds derived counts rest row are e = at (is_fewer derived counts) refl e
    where
      number : ℕ
      number = 1 + head.count + length (lines_of ds ++ row_lines derived counts)

      at : (b : Bool) → is_fewer derived counts ≡ b → tails_defect limits (cond b (rows_of ds) (rows_of ds + 1)) (cond b (Some (derived, counts)) None) number parts ≡ Some (on, kind) → IsBadTail limits head bytes (record { line = on; kind = kind })
      at true fewer e = parts_later ds derived counts rest row (fewer_is derived counts fewer) are e
      at false full e =
          let same : counts_of derived ≡ counts = all_parts derived counts row.filling (not_fewer derived counts full) in
          let more = ds ++ Row derived ∷ [] in
          let whole : IsRowKept limits.slots (limits.rows + rows_of ds) derived = record { line = subst (λ (c : Counts). IsTailLine (row_line derived c)) (sym same) row.begins.0; few_entries = subst (λ (c : Counts). c.entries ≤ limits.slots) (sym same) row.begins.1; parts = row.parts } in
          let kept : AreDerivationsKept limits more = more_kept limits (rows_of ds) ds (Row derived) row.kept refl (whole, room_is limits (rows_of ds + 1) row.sound) in
          let lines : lines_of ds ++ row_lines derived counts ≡ lines_of more = ap (λ (c : Counts). lines_of ds ++ row_lines derived c) (sym same) ∙ sym (lines_of-more ds (Row derived)) in
          let rows : rows_of ds + 1 ≡ rows_of more = sym (rows_of-more ds (Row derived)) in
          begins_later more rest kept (row.is ∙ ap (λ (ls : List TailLine). lines_text ls ++ rest) lines) are
          (sym (ap (λ (n : ℕ). tails_defect limits n None number parts) rows ∙ ap (λ (ls : List TailLine). tails_defect limits (rows_of more) None (1 + head.count + length ls) parts) lines) ∙ e)

  -- a derivation without a defect begins
  begun : (parts : List (List ℕ)) → AtBegin parts → AtPart parts → (ds : List Derivation) (rest after : List ℕ) (l : TailLine) → AreDerivationsKept limits ds → drop head.bytes bytes ≡ lines_text (lines_of ds) ++ rest → MayBegin limits.slots l
      → rest ≡ tail_line_text l ++ 10 ∷ after → parts_of after ≡ parts → beginning_defect limits (rows_of ds) l ≡ None
      → tails_defect limits (rows_behind (rows_of ds) l) (open_behind l) (1 + head.count + length (lines_of ds) + 1) parts ≡ Some (on, kind) → IsBadTail limits head bytes (record { line = on; kind = kind })
  begun parts begins_later parts_later ds rest after (line.Cut row slot) kept text may is later sound e =
      let cut : RowCut = record { row = row; slot = slot } in
      let more = ds ++ Cut cut ∷ [] in
      let lines : lines_of ds ++ cut_line cut ∷ [] ≡ lines_of more = sym (lines_of-more ds (Cut cut)) in
      let rows : rows_of ds ≡ rows_of more = omega (arith, rows_of-more ds (Cut cut)) in
      let number : 1 + head.count + length (lines_of ds) + 1 ≡ 1 + head.count + length (lines_of more) = omega (arith, ap length lines, length-append (lines_of ds) (cut_line cut ∷ [])) in
      begins_later more after (more_kept limits (rows_of ds) ds (Cut cut) kept refl (cut_there limits (rows_of ds) row slot sound))
      (text_more (lines_of ds) (cut_line cut) (drop head.bytes bytes) rest after text is ∙ ap (λ (ls : List TailLine). lines_text ls ++ after) lines) later
      (sym (ap (λ (n : ℕ). tails_defect limits n None (1 + head.count + length (lines_of ds) + 1) parts) rows ∙ ap (λ (n : ℕ). tails_defect limits (rows_of more) None n parts) number) ∙ e)
  begun parts begins_later parts_later ds rest after (line.Row divisor scale_rest up down factors groups entries) kept text may is later sound e =
      let derived = row_with divisor scale_rest up down in
      let counts = counts_with factors groups entries in
      let l = row_line derived counts in
      let long : length (lines_of ds ++ row_lines derived counts) ≡ length (lines_of ds) + 1 = length-append (lines_of ds) (l ∷ []) in
      let none : HasNoParts derived = record { factors = refl; groups = refl; entries = refl } in
      let number : 1 + head.count + length (lines_of ds) + 1 ≡ 1 + head.count + length (lines_of ds ++ row_lines derived counts) = omega (arith, long) in
      settled parts begins_later parts_later ds derived counts after
      (record { kept = kept; begins = may; sound = sound; parts = none_kept limits.slots (limits.rows + rows_of ds) derived none; filling = none_filling derived counts none; is = text_more (lines_of ds) l (drop head.bytes bytes) rest after text is }) later
      (sym (ap (λ (n : ℕ). onward limits (rows_of ds) derived counts n parts) number) ∙ e)
  begun parts begins_later parts_later ds rest after (line.By _ _) kept text may is later sound e = absurd may
  begun parts begins_later parts_later ds rest after (line.Shift _ _) kept text may is later sound e = absurd may
  begun parts begins_later parts_later ds rest after (line.Lift _ _) kept text may is later sound e = absurd may
  begun parts begins_later parts_later ds rest after (line.Entry _ _ _) kept text may is later sound e = absurd may

  at_begin : (part : List ℕ) (parts : List (List ℕ)) → AtBegin parts → AtPart parts → AtBegin (part ∷ parts)
  unfolding tails_defect
  at_begin part parts begins_later parts_later ds rest kept text are is = by_line (beginning_said limits.slots part (length parts)) refl is
    where
      number : ℕ
      number = 1 + head.count + length (lines_of ds)

      by_defect : (l : TailLine) → Beginning limits.slots part (length parts) l → (found : Option ℕ) → beginning_defect limits (rows_of ds) l ≡ found
          → option_map_or (λ k. Some (number, k)) found (tails_defect limits (rows_behind (rows_of ds) l) (open_behind l) (number + 1) parts) ≡ Some (on, kind) → IsBadTail limits head bytes (record { line = on; kind = kind })
      by_defect l tells None sound e =
          let next = ahead rest part parts are tells.some in
          begun parts begins_later parts_later ds rest next.after l kept text tells.may (next.is ∙ ap (λ (w : List ℕ). w ++ 10 ∷ next.after) (sym tells.is)) next.later sound e
      by_defect l tells (Some k) bad e =
          let next = ahead rest part parts are tells.some in
          let same = pairs_same number k on kind e in
          record {
            derivations = ds;
            kept = kept;
            bad = inl (record {
              rest = rest;
              is = text;
              line = sym same.0;
              bad = record {
                line = l;
                begins = tells.may;
                first = record { after = next.after; is = next.is ∙ ap (λ (w : List ℕ). w ++ 10 ∷ next.after) (sym tells.is) };
                defect = bad ∙ ap (λ (n : ℕ). Some n) same.1;
              };
            });
          }

      by_line : (found : Option TailLine) → beginning_said limits.slots part (length parts) ≡ found
          → option_map_or (λ l. option_map_or (λ k. Some (number, k)) (beginning_defect limits (rows_of ds) l) (tails_defect limits (rows_behind (rows_of ds) l) (open_behind l) (number + 1) parts)) found None ≡ Some (on, kind)
          → IsBadTail limits head bytes (record { line = on; kind = kind })
      by_line None none e = absurd cc
      by_line (Some l) one e = by_defect l (beginning_tells limits.slots part (length parts) l one) (beginning_defect limits (rows_of ds) l) refl e

  -- where a part is to come, the next line has a defect
  bad_here : (ds : List Derivation) (derived : Derived) (counts : Counts) (rest : List ℕ) → IsOpenRow ds derived counts rest → IsFewer derived counts → IsBadPart limits.slots (limits.rows + rows_of ds) derived (next_part derived counts) rest kind
      → 1 + head.count + length (lines_of ds ++ row_lines derived counts) ≡ on → IsBadTail limits head bytes (record { line = on; kind = kind })
  bad_here ds derived counts rest row fewer bad number = record {
    derivations = ds;
    kept = row.kept;
    bad = inr (record {
      derived = derived;
      counts = counts;
      rest = rest;
      begins = row.begins;
      sound = row.sound;
      parts = row.parts;
      filling = row.filling;
      fewer = fewer;
      is = row.is;
      line = sym number;
      bad = bad;
    });
  }

  -- a row with a piece more begins with the same line
  more_begins : (derived : Derived) (p : Piece) (counts : Counts) → row_line (with_piece derived p) counts ≡ row_line derived counts
  more_begins derived (piece.Factor f) counts = refl
  more_begins derived (piece.Group g) counts = refl
  more_begins derived (piece.Entry e) counts = refl

  -- one part more
  more_parts : (parts : List (List ℕ)) → AtBegin parts → AtPart parts → (ds : List Derivation) (derived : Derived) (counts : Counts) (rest after : List ℕ) (p : Piece) → IsOpenRow ds derived counts rest → IsFewer derived counts
      → IsNextPiece limits.slots (limits.rows + rows_of ds) derived (next_part derived counts) p → rest ≡ tail_line_text (piece_line p) ++ 10 ∷ after → parts_of after ≡ parts
      → onward limits (rows_of ds) (with_piece derived p) counts (1 + head.count + length (lines_of ds ++ row_lines derived counts) + 1) parts ≡ Some (on, kind) → IsBadTail limits head bytes (record { line = on; kind = kind })
  more_parts parts begins_later parts_later ds derived counts rest after p row fewer next is later e =
      let more = with_piece derived p in
      let l = piece_line p in
      let first = more_begins derived p counts in
      let old_lines = lines_of ds ++ row_lines derived counts in
      let own : row_lines derived counts ++ l ∷ [] ≡ row_lines more counts =
      ap (λ (ls : List TailLine). row_line derived counts ∷ ls) (sym (piece_lines limits.slots (limits.rows + rows_of ds) derived counts p row.filling next))
      ∙ ap (λ (x : TailLine). x ∷ part_lines more) (sym first) in
      let lines : old_lines ++ l ∷ [] ≡ lines_of ds ++ row_lines more counts = append_assoc (lines_of ds) (row_lines derived counts) (l ∷ []) ∙ ap (λ (ls : List TailLine). lines_of ds ++ ls) own in
      let number : 1 + head.count + length old_lines + 1 ≡ 1 + head.count + length (lines_of ds ++ row_lines more counts) = omega (arith, ap length lines, length-append old_lines (l ∷ [])) in
      settled parts begins_later parts_later ds more counts after
      (record {
        kept = row.kept;
        begins = subst (MayBegin limits.slots) (sym first) row.begins;
        sound = ap (beginning_defect limits (rows_of ds)) first ∙ row.sound;
        parts = piece_kept limits.slots (limits.rows + rows_of ds) derived counts p row.parts next;
        filling = piece_filling limits.slots (limits.rows + rows_of ds) derived counts p row.filling fewer next;
        is = text_more old_lines l (drop head.bytes bytes) rest after row.is is ∙ ap (λ (ls : List TailLine). lines_text ls ++ after) lines;
      }) later
      (sym (ap (λ (n : ℕ). onward limits (rows_of ds) more counts n parts) number) ∙ e)

  at_part : (part : List ℕ) (parts : List (List ℕ)) → AtBegin parts → AtPart parts → AtPart (part ∷ parts)
  unfolding tails_defect
  at_part part parts begins_later parts_later ds derived counts rest row fewer are e = by_first (first_part rest part parts are)
    where
      next : Part
      next = next_part derived counts

      number : ℕ
      number = 1 + head.count + length (lines_of ds ++ row_lines derived counts)

      step : TailLine → Option (ℕ × ℕ)
      step l = option_map_or (λ k. Some (number, k)) (part_defect limits.slots (limits.rows + rows_of ds) l) (onward limits (rows_of ds) (with_line derived l) counts (number + 1) parts)

      last : Option (ℕ × ℕ)
      last = Some (number, cond (ltb 200 (length part)) 1 2)

      other : Option (ℕ × ℕ)
      other = option_map_or step (passed (may_come derived next) (tail_line_said part)) (Some (number, 1))

      here : IsBadPart limits.slots (limits.rows + rows_of ds) derived next rest kind → number ≡ on → IsBadTail limits head bytes (record { line = on; kind = kind })
      here bad same = bad_here ds derived counts rest row fewer bad same

      by_length : HasNoFeed rest → rest ≡ part → (b : Bool) → ltb 200 (length part) ≡ b → ◌≡◌ {A = Option (ℕ × ℕ)} (Some (number, cond b 1 2)) (Some (on, kind)) → IsBadTail limits head bytes (record { line = on; kind = kind })
      by_length plain same true long_part e =
          let found = pairs_same number 1 on kind e in
          let late : ¬ EndsEarly rest = λ early. omega (arith, early.1, ap length same, ltb-true 200 (length part) long_part) in
          here (inr (inl (sym found.1, late, λ l follows first. begins_none (tail_line_text l) rest plain first))) found.0
      by_length plain same false short e =
          let found = pairs_same number 2 on kind e in
          here (inl (sym found.1, (plain, omega (arith, ap length same, ltb-false 200 (length part) short)))) found.0

      by_defect : (l : TailLine) → MayFollow derived next l → tail_line_text l ≡ part → Ahead rest part parts → (found : Option ℕ) → part_defect limits.slots (limits.rows + rows_of ds) l ≡ found
          → option_map_or (λ k. Some (number, k)) found (onward limits (rows_of ds) (with_line derived l) counts (number + 1) parts) ≡ Some (on, kind) → IsBadTail limits head bytes (record { line = on; kind = kind })
      by_defect l may text going None sound e =
          let made = of_piece derived next l may in
          let is = going.is ∙ ap (λ (w : List ℕ). w ++ 10 ∷ going.after) (sym text ∙ ap tail_line_text made.is) in
          more_parts parts begins_later parts_later ds derived counts rest going.after made.own row fewer
          (record { follows = subst (MayFollow derived next) made.is may; sound = ap (part_defect limits.slots (limits.rows + rows_of ds)) (sym made.is) ∙ sound }) is going.later
          (sym (ap (λ (d : Derived). onward limits (rows_of ds) d counts (number + 1) parts) made.more) ∙ e)
      by_defect l may text going (Some k) far e =
          let found = pairs_same number k on kind e in
          here (inr (inr (record {
            line = l;
            may_follow = may;
            first = record { after = going.after; is = going.is ∙ ap (λ (w : List ℕ). w ++ 10 ∷ going.after) (sym text) };
            far = far ∙ ap (λ (n : ℕ). Some n) found.1;
          }))) found.0

      by_line : (going : Ahead rest part parts) (found : Option TailLine) → passed (may_come derived next) (tail_line_said part) ≡ found → option_map_or step found (Some (number, 1)) ≡ Some (on, kind) → IsBadTail limits head bytes (record { line = on; kind = kind })
      by_line going None none e =
          let found = pairs_same number 1 on kind e in
          here (inr (inl (sym found.1, line_late part rest going.after going.is, none_follows derived next part rest going.after going.plain going.is none))) found.0
      by_line going (Some l) one e =
          let tells = passed_tells (may_come derived next) part (tail_line_said part) l refl one in
          by_defect l (may_follow derived next l tells.0 tells.2) tells.1 going (part_defect limits.slots (limits.rows + rows_of ds) l) refl e

      by_first : Alone rest part parts ⊎ Ahead rest part parts → IsBadTail limits head bytes (record { line = on; kind = kind })
      by_first (inl alone) =
          let empty : (length parts == 0) ≡ true = ap (λ (ps : List (List ℕ)). length ps == 0) alone.none in
          by_length alone.plain alone.is (ltb 200 (length part)) refl (sym (cond-true (length parts == 0) last other empty) ∙ e)
      by_first (inr going) =
          let some : 0 < length parts = subst (λ (ps : List (List ℕ)). 0 < length ps) going.later (some_part going.after) in
          by_line going (passed (may_come derived next) (tail_line_said part)) refl (sym (cond-false (length parts == 0) last other (not_none (length parts) some)) ∙ e)

  back : (parts : List (List ℕ)) → AtBegin parts × AtPart parts
  back [] = (
    λ ds rest kept text are e. absurd (omega (arith, some_part rest, ap length are)),
    λ ds derived counts rest row fewer are e. absurd (omega (arith, some_part rest, ap length are)),
  )
  back (part ∷ parts) = let later = back parts in (at_begin part parts later.0 later.1, at_part part parts later.0 later.1)

from_function : (limits : Limits) (head : Head) (bytes : List ℕ) (defect : Defect) → tail_defect limits head bytes ≡ Some (defect.line, defect.kind) → IsBadTail limits head bytes defect
from_function limits head bytes defect is =
    let rest = drop head.bytes bytes in
    let number : 1 + head.count ≡ 1 + head.count + 0 = omega arith in
    (back limits head bytes defect.line defect.kind (parts_of rest)).0 [] rest tt (sym (ap (λ (t : List ℕ). t ++ rest) lines_text-nil)) refl
    (sym (ap (λ (n : ℕ). tails_defect limits 0 None n (parts_of rest)) number) ∙ is)

pub tail_defects : TailDefectsAre
tail_defects limits head bytes defect few few_rows = (to_function limits head bytes defect few few_rows, from_function limits head bytes defect)
