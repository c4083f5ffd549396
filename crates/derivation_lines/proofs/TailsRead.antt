-- Derivations, one after another.
use Rattle.std.proofs.Common.{◌≡◌, inl, inr, ℕ, suc, ◌+◌, ◌-◌, ◌<◌, ◌≤◌, ◌^◌, true, List, [], ◌∷◌, ◌++◌, length, length-append, drop, get_or, Option, Some, None, IfSome, subst, sym, ap, ◌∙◌, refl, arith, append_assoc}
use Rattle.std.specs.Prelude.{codes}
use Rattle.std.proofs.Math.Seq.{drop-append_seam}
use Rattle.std.proofs.lemmas.Bool.Decides.{nat_tests}
use Rattle.std.proofs.lemmas.Grind.{flat_map-append}
use Rattle.std.proofs.lemmas.List.{append-nil, drop-drop}
use Rattle.log_lines.specs.declared.grammar.Limits.{Limits}
use Rattle.log_lines.specs.declared.defect.Defect.{Defect}
use Rattle.stn_edge.specs.Files.{FileMap, file_of}
use Rattle.derived_rows.specs.declared.derived.Derived.{Derived}
use Rattle.derivations.specs.declared.derivation.Derivation.{Derivation}
use Rattle.derivations.specs.declared.derivation.Derivation.TheVariants.{Cut, Row}
use Rattle.sum_lines.specs.declared.head.Head.{Head}
use Rattle.sum_lines.specs.declared.walk.Walk.{Walk}
use Rattle.sum_lines.proofs.Feeds.{begins_none}
use Rattle.derivation_lines.specs.declared.beginning.Begun.TheVariants as begun
use Rattle.derivation_lines.specs.declared.line.TailLine.{TailLine}
use Rattle.derivation_lines.specs.declared.line.TailLine.TheVariants as line
use Rattle.derivation_lines.specs.declared.seen.Seen.{Seen}
use Rattle.derivation_lines.specs.declared.seen.Seen.TheVariants as seen
use Rattle.derivation_lines.specs.declared.tail.Counts.{Counts}
use Rattle.derivation_lines.specs.declared.tail.Tail.{Tail}
use Rattle.derivation_lines.specs.Front.{IsBadAt, IsBadTail, IsTailed, MayBegin, NoneFirst, beginning_defect}
use Rattle.derivation_lines.specs.Line.{IsTailLine, tail_line_text}
use Rattle.derivations.specs.Growth.{rows_of}
use Rattle.derivation_lines.specs.Tail.{AreDerivationsKept, AreKeptAfter, IsDerivationKept, IsTailKept, begins_on, counts_of, derivation_lines, has_row_room, lines_of, lines_text, part_lines, row_line, row_lines, tail_of, tail_text}
use Rattle.derivation_lines.specs.laws.Parts.{HasBadParts, HasHead, IsBegun}
use Rattle.derivation_lines.specs.laws.Walk.{HasPassed, HasSeen, rest_after}
use Rattle.derivation_lines.proofs.NextLines.{first_same, line_first}

-- a line that may begin a derivation may be written
may_begin_line : (slots : ℕ) (l : TailLine) → MayBegin slots l → IsTailLine l
may_begin_line slots (line.Cut _ _) may = may
may_begin_line slots (line.Row _ _ _ _ _ _ _) may = may.0
may_begin_line slots (line.By _ _) may = absurd may
may_begin_line slots (line.Shift _ _) may = absurd may
may_begin_line slots (line.Lift _ _) may = absurd may
may_begin_line slots (line.Entry _ _ _) may = absurd may

-- where what is seen begins nothing, no line does
pub none_begins : (files : Option FileMap) (name : List ℕ) (start number : ℕ) (lines : List TailLine) (walk2 : Walk) (shown : Seen) (limits : Limits) (before : ℕ) → HasSeen files name start number lines walk2 shown → IsBegun limits before shown begun.Nothing
    → IfSome files (λ m. NoneFirst (MayBegin limits.slots) (rest_after start lines (file_of m name)))
none_begins None name start number lines walk2 shown limits before has none = tt
none_begins (Some m) name start number lines walk2 (seen.Line l) limits before has none = λ other may first.
    let file = file_of m name in
    none l refl (subst (MayBegin limits.slots) (first_same other l (rest_after start lines file) (rest_after start (lines ++ l ∷ []) file) (may_begin_line limits.slots other may) has.0 (line_first m name start number lines l walk2 has.1) first) may)
none_begins (Some m) name start number lines walk2 seen.Other limits before has none = λ other may first. has.1 other (may_begin_line limits.slots other may) first
none_begins (Some m) name start number lines walk2 seen.Cut limits before has none = λ other may first. begins_none (tail_line_text other) (rest_after start lines (file_of m name)) has.0 first

-- the defect of a line that begins a derivation
pub beginning_bad : (files : Option FileMap) (name : List ℕ) (start number : ℕ) (lines : List TailLine) (walk walk2 : Walk) (l : TailLine) (limits : Limits) (before kind : ℕ) → HasPassed files name start number lines walk → HasSeen files name start number lines walk2 (seen.Line l)
    → MayBegin limits.slots l → beginning_defect limits before l ≡ Some kind → IfSome files (λ m. IsBadAt limits before number lines (drop start (file_of m name)) (record { line = walk.line; kind = kind }))
beginning_bad None name start number lines walk walk2 l limits before kind passed has may is = tt
beginning_bad (Some m) name start number lines walk walk2 l limits before kind passed has may is =
    let file = file_of m name in
    inl (record {
      rest = rest_after start lines file;
      is = passed.after.told.0;
      line = passed.line;
      bad = record { line = l; begins = may; first = record { after = rest_after start (lines ++ l ∷ []) file; is = line_first m name start number lines l walk2 has.1 }; defect = is };
    })

-- rows that differ in their parts alone begin with the same line
row_same : (old new : Derived) (counts : Counts) → HasHead old new → row_line old counts ≡ row_line new counts
row_same old new counts head = rw (head.divisor, head.rest, head.up, head.down) refl

-- the defect of a line where a part of a row is to come
pub parts_bad : (files : Option FileMap) (name : List ℕ) (start number : ℕ) (lines : List TailLine) (derived : Derived) (counts : Counts) (limits : Limits) (before : ℕ) (defect : Defect)
    → HasBadParts files name start number limits.slots (limits.rows + before) derived counts (lines ++ row_line derived counts ∷ []) defect → MayBegin limits.slots (row_line derived counts) → beginning_defect limits before (row_line derived counts) ≡ None
    → IfSome files (λ m. IsBadAt limits before number lines (drop start (file_of m name)) defect)
parts_bad None name start number lines derived counts limits before defect has may sound = tt
parts_bad (Some m) name start number lines derived counts limits before defect has may sound =
    let file = file_of m name in
    let same = row_same derived has.parts counts has.head in
    let all = (lines ++ row_line derived counts ∷ []) ++ part_lines has.parts in
    let joined : all ≡ lines ++ row_lines has.parts counts = append_assoc lines (row_line derived counts ∷ []) (part_lines has.parts) ∙ ap (λ l. lines ++ (l ∷ part_lines has.parts)) same in
    inr (record {
      derived = has.parts;
      counts = counts;
      rest = rest_after start all file;
      begins = subst (MayBegin limits.slots) same may;
      sound = subst (λ l. beginning_defect limits before l ≡ None) same sound;
      parts = has.kept;
      filling = has.filling;
      fewer = has.fewer;
      is = has.bad.told.0 ∙ ap (λ ls. lines_text ls ++ rest_after start all file) joined;
      line = has.bad.line ∙ ap (λ ls. number + length ls) joined;
      bad = has.bad.told.1;
    })

-- a row whose parts were read
pub row_goes : (files : Option FileMap) (name : List ℕ) (start number : ℕ) (lines : List TailLine) (old new : Derived) (counts : Counts) (walk : Walk) → HasHead old new → counts_of new ≡ counts
    → HasPassed files name start number ((lines ++ row_line old counts ∷ []) ++ part_lines new) walk → HasPassed files name start number (lines ++ row_lines new (counts_of new)) walk
row_goes files name start number lines old new counts walk head all passed =
    let joined = append_assoc lines (row_line old counts ∷ []) (part_lines new) ∙ ap (λ l. lines ++ (l ∷ part_lines new)) (row_same old new counts head) in
    subst (λ c. HasPassed files name start number (lines ++ row_lines new c) walk) (sym all) (subst (λ ls. HasPassed files name start number ls walk) joined passed)

-- ---- whole derivations

-- how many rows the first and the others are
rows_of-cons : (d : Derivation) (ds : List Derivation) → rows_of (d ∷ ds) ≡ rows_of (d ∷ []) + rows_of ds
rows_of-cons (Cut _) ds = omega arith
rows_of-cons (Row _) ds = omega arith

-- how many rows derivations and one more are
pub rows_of-more : (ds : List Derivation) (d : Derivation) → rows_of (ds ++ d ∷ []) ≡ rows_of ds + rows_of (d ∷ [])
rows_of-more [] d = omega arith
rows_of-more (e ∷ ds) d = omega (arith, rows_of-cons e (ds ++ d ∷ []), rows_of-cons e ds, rows_of-more ds d)

-- derivations and one more keep the limits
kept_more : (limits : Limits) (before : ℕ) (ds : List Derivation) (d : Derivation) → AreKeptAfter limits before ds → IsDerivationKept limits (before + rows_of ds) d → AreKeptAfter limits before (ds ++ d ∷ [])
kept_more limits before [] d kept is = let none : before + 0 ≡ before = omega arith in (subst (λ n. IsDerivationKept limits n d) none is, tt)
kept_more limits before (e ∷ ds) d kept is =
    let count : before + rows_of (e ∷ ds) ≡ (before + rows_of (e ∷ [])) + rows_of ds = omega (arith, rows_of-cons e ds) in
    (kept.0, kept_more limits (before + rows_of (e ∷ [])) ds d kept.1 (subst (λ n. IsDerivationKept limits n d) count is))

pub more_kept : (limits : Limits) (before : ℕ) (ds : List Derivation) (d : Derivation) → AreDerivationsKept limits ds → before ≡ rows_of ds → IsDerivationKept limits before d → AreDerivationsKept limits (ds ++ d ∷ [])
more_kept limits before ds d kept count is = let same : before ≡ 0 + rows_of ds = omega (arith, count) in kept_more limits 0 ds d kept (subst (λ n. IsDerivationKept limits n d) same is)

-- there is room for few rows
room_few : (limits : Limits) (count : ℕ) → has_row_room limits count ≡ true → count ≤ 4096
room_few limits count is = grind (arith, nat_tests)

pub few_more : (limits : Limits) (before : ℕ) (d : Derivation) → before ≤ 4096 → IsDerivationKept limits before d → before + rows_of (d ∷ []) ≤ 4096
few_more limits before (Cut _) few is = omega arith
few_more limits before (Row _) few is = omega (arith, room_few limits (before + 1) is.1)

-- the lines of derivations and one more
pub lines_of-more : (ds : List Derivation) (d : Derivation) → lines_of (ds ++ d ∷ []) ≡ lines_of ds ++ derivation_lines d
lines_of-more ds d = flat_map-append derivation_lines ds (d ∷ []) ∙ ap (λ w. lines_of ds ++ w) (append-nil (derivation_lines d))

-- a derivation has at least one line
pub some_lines : (d : Derivation) → 1 ≤ length (derivation_lines d)
some_lines (Cut _) = omega arith
some_lines (Row _) = omega arith

-- the lines on which derivations and one more begin
begins_on-more : (first : ℕ) (ds : List Derivation) (d : Derivation) → begins_on first (ds ++ d ∷ []) ≡ begins_on first ds ++ (first + length (lines_of ds)) ∷ []
begins_on-more first [] d = let same : first ≡ first + 0 = omega arith in ap (λ n. n ∷ []) same
begins_on-more first (e ∷ ds) d =
    let next : (first + length (derivation_lines e)) + length (lines_of ds) ≡ first + length (lines_of (e ∷ ds)) = omega (arith, length-append (derivation_lines e) (lines_of ds)) in
    ap (λ w. first ∷ w) (begins_on-more (first + length (derivation_lines e)) ds d ∙ ap (λ n. begins_on (first + length (derivation_lines e)) ds ++ n ∷ []) next)

-- the lines of derivations after one more, where its line is told
pub begins_next : (first : ℕ) (lines lines2 : List ℕ) (ds : List Derivation) (d : Derivation) (at : ℕ) → lines ≡ begins_on first ds → lines2 ≡ lines ++ at ∷ [] → at ≡ first + length (lines_of ds) → lines2 ≡ begins_on first (ds ++ d ∷ [])
begins_next first lines lines2 ds d at is is2 told = is2 ∙ ap (λ w. w ++ at ∷ []) is ∙ ap (λ n. begins_on first ds ++ n ∷ []) told ∙ sym (begins_on-more first ds d)

-- one line for each derivation
begins_long : (first : ℕ) (ds : List Derivation) → length (begins_on first ds) ≡ length ds
begins_long first [] = refl
begins_long first (d ∷ ds) = ap suc (begins_long (first + length (derivation_lines d)) ds)

-- a walk that has passed one derivation more is on a later line
pub line_later : (files : Option FileMap) (name : List ℕ) (start number : ℕ) (ds : List Derivation) (d : Derivation) (old new : Walk) → HasPassed files name start number (lines_of ds) old → HasPassed files name start number (lines_of ds ++ derivation_lines d) new → old.line < new.line
line_later files name start number ds d old new passed passed2 = omega (arith, passed.line, passed2.line, length-append (lines_of ds) (derivation_lines d), some_lines d)

-- the derivations of a log that keep the limits
pub tail_of_kept : (limits : Limits) (head : Head) (ds : List Derivation) → AreDerivationsKept limits ds → head.bytes + length (tail_text ds) < 2 ^ 64 → IsTailKept limits head (tail_of head ds)
tail_of_kept limits head ds kept small = record { is = refl; derivations = kept; lines = begins_long (1 + head.count) ds; count = omega arith; bytes_least = omega arith; bytes_most = small }

-- the derivations that a walk has passed
tail_same : (files : Option FileMap) (name : List ℕ) (head : Head) (ds : List Derivation) (lines : List ℕ) (walk : Walk) → lines ≡ begins_on (1 + head.count) ds → HasPassed files name head.bytes (1 + head.count) (lines_of ds) walk
    → tail_of head ds ≡ record { derivations = ds; lines = lines; count = walk.line - 1; bytes = walk.bytes }
tail_same files name head ds lines walk is passed =
    let count : head.count + length (lines_of ds) ≡ walk.line - 1 = omega (arith, passed.line) in
    let bytes : head.bytes + length (tail_text ds) ≡ walk.bytes = sym passed.after.bytes in
    let made : ℕ → ℕ → List ℕ → Tail = λ c b l. record { derivations = ds; lines = l; count = c; bytes = b } in
    ap (λ c. made c (head.bytes + length (tail_text ds)) (begins_on (1 + head.count) ds)) count ∙ ap (λ b. made (walk.line - 1) b (begins_on (1 + head.count) ds)) bytes ∙ ap (λ l. made (walk.line - 1) walk.bytes l) (sym is)

pub tail_kept : (files : Option FileMap) (name : List ℕ) (limits : Limits) (head : Head) (ds : List Derivation) (lines : List ℕ) (walk : Walk) → AreDerivationsKept limits ds → lines ≡ begins_on (1 + head.count) ds → HasPassed files name head.bytes (1 + head.count) (lines_of ds) walk
    → walk.bytes < 2 ^ 64 → IsTailKept limits head (record { derivations = ds; lines = lines; count = walk.line - 1; bytes = walk.bytes })
tail_kept files name limits head ds lines walk kept is passed small =
    subst (IsTailKept limits head) (tail_same files name head ds lines walk is passed) (tail_of_kept limits head ds kept (subst (λ n. n < 2 ^ 64) passed.after.bytes small))

-- the same of the file
pub tail_told : (files : Option FileMap) (name : List ℕ) (limits : Limits) (head : Head) (ds : List Derivation) (lines : List ℕ) (walk : Walk) → IsTailKept limits head (record { derivations = ds; lines = lines; count = walk.line - 1; bytes = walk.bytes })
    → HasPassed files name head.bytes (1 + head.count) (lines_of ds) walk → IfSome files (λ m. NoneFirst (MayBegin limits.slots) (rest_after head.bytes (lines_of ds) (file_of m name)))
    → IfSome files (λ m. IsTailed limits head (file_of m name) (record { derivations = ds; lines = lines; count = walk.line - 1; bytes = walk.bytes }))
tail_told None name limits head ds lines walk kept passed none = tt
tail_told (Some m) name limits head ds lines walk kept passed none =
    let file = file_of m name in
    record {
      kept = kept;
      is = passed.after.told.0 ∙ ap (λ n. tail_text ds ++ drop n file) (sym passed.after.bytes);
      ends = subst (λ n. NoneFirst (MayBegin limits.slots) (drop n file)) (sym passed.after.bytes) none;
    }

-- a defect after whole derivations
pub bad_tail : (files : Option FileMap) (name : List ℕ) (limits : Limits) (head : Head) (ds : List Derivation) (before : ℕ) (defect : Defect) → AreDerivationsKept limits ds → before ≡ rows_of ds
    → IfSome files (λ m. IsBadAt limits before (1 + head.count) (lines_of ds) (drop head.bytes (file_of m name)) defect) → IfSome files (λ m. IsBadTail limits head (file_of m name) defect)
bad_tail None name limits head ds before defect kept is bad = tt
bad_tail (Some m) name limits head ds before defect kept is bad =
    record { derivations = ds; kept = kept; bad = subst (λ n. IsBadAt limits n (1 + head.count) (lines_of ds) (drop head.bytes (file_of m name)) defect) is bad }

-- ---- the law

-- no line that may begin a derivation stands first before a line `node`
node_none : (slots : ℕ) (rest : List ℕ) → NoneFirst (MayBegin slots) (codes "node" ++ 10 ∷ rest)
unfolding tail_line_text
node_none slots rest (line.Cut _ _) may first = omega (arith, ap (λ w. get_or w 0 0) first.is)
node_none slots rest (line.Row _ _ _ _ _ _ _) may first = omega (arith, ap (λ w. get_or w 0 0) first.is)
node_none slots rest (line.By _ _) may first = absurd may
node_none slots rest (line.Shift _ _) may first = absurd may
node_none slots rest (line.Lift _ _) may first = absurd may
node_none slots rest (line.Entry _ _ _) may first = absurd may

pub derivations_read : (limits : Limits) (head : Head) (front rest : List ℕ) (ds : List Derivation) → length front ≡ head.bytes → AreDerivationsKept limits ds → head.bytes + length (tail_text ds) < 2 ^ 64
    → IsTailed limits head (front ++ (tail_text ds ++ (codes "node" ++ 10 ∷ rest))) (tail_of head ds)
derivations_read limits head front rest ds long kept small =
    let text = tail_text ds in
    let node = codes "node" ++ 10 ∷ rest in
    let bytes = front ++ (text ++ node) in
    let behind : drop head.bytes bytes ≡ text ++ node = ap (λ n. drop n bytes) (sym long) ∙ drop-append_seam front (text ++ node) in
    let after : drop (head.bytes + length text) bytes ≡ node = sym (drop-drop (length text) head.bytes bytes) ∙ ap (drop (length text)) behind ∙ drop-append_seam text node in
    record {
      kept = tail_of_kept limits head ds kept small;
      is = behind ∙ ap (λ w. text ++ w) (sym after);
      ends = subst (NoneFirst (MayBegin limits.slots)) (sym after) (node_none limits.slots rest);
    }
