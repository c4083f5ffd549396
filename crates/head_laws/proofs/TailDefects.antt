-- The first defect of derivations is what the function of their lines finds.
use Rattle.std.proofs.Common.{◌≡◌, ℕ, ℤ, ◌+◌, ◌<◌, ◌≤◌, Bool, true, false, cond, ltb, leb, ◌==◌, nat_le, All, List, [], ◌∷◌, ◌++◌, length, length-append, map, Option, Some, None, refl, sym, ap, ap₂, ◌∙◌, subst, arith, append_assoc, append-nil, le_of_eq, unsigned_abs, inl, inr, ◌⊎◌}
use Rattle.std.specs.Prelude.{⊤, drop}
use Rattle.std.specs.List.Sorted.{IsStrictlyIncreasing}
use Rattle.std.specs.Option.{option_map_or}
use Rattle.std.proofs.lemmas.Bool.{cases_Bool, cases_lt, cond-false, cond-true, le-leb, le-ltb, lt-leb, lt-ltb, or_from, or_left, or_right}
use Rattle.std.proofs.lemmas.List.{length-map, map-append}
use Rattle.std.proofs.lemmas.List.Elements.{All-head, All-tail}
use Rattle.log_lines.specs.declared.defect.Defect.{Defect}
use Rattle.log_lines.specs.declared.grammar.Limits.{Limits}
use Rattle.log_lines.specs.Grammar.{follows}
use Rattle.log_lines.specs.Reader.{HasNoFeed}
use Rattle.row_kit.specs.declared.row.Entry.{Entry}
use Rattle.derived_rows.specs.declared.derived.Derived.{Derived}
use Rattle.derived_rows.specs.declared.derived.Factor.{Factor}
use Rattle.derived_rows.specs.declared.derived.Group.{Group}
use Rattle.derived_rows.specs.declared.derived.Members.{Members}
use Rattle.derived_rows.specs.declared.derived.Members.TheVariants.{One, OfRow}
use Rattle.derived_rows.specs.Shown.{IsFactor}
use Rattle.derivations.specs.declared.derivation.Derivation.{Derivation}
use Rattle.derivations.specs.declared.derivation.Derivation.TheVariants.{Cut, Row}
use Rattle.derivations.specs.Growth.{rows_of}
use Rattle.sum_lines.specs.declared.head.Head.{Head}
use Rattle.sum_lines.specs.Head.{last_slot}
use Rattle.derivation_lines.specs.declared.line.TailLine.{TailLine}
use Rattle.derivation_lines.specs.declared.line.TailLine.TheVariants as line
use Rattle.derivation_lines.specs.declared.pieces.Piece.{Piece}
use Rattle.derivation_lines.specs.declared.pieces.Piece.TheVariants as piece
use Rattle.derivation_lines.specs.declared.tail.Counts.{Counts}
use Rattle.derivation_lines.specs.declared.tail.Part.{Part}
use Rattle.derivation_lines.specs.declared.tail.Part.TheVariants as part
use Rattle.derivation_lines.specs.Front.{IsBadAt, IsBadAtStart, IsBadInRow, IsBadPart, IsBadTail, IsFewer, IsFilling, MayBegin, MayFollow, NoneFirst, beginning_defect, last_row, next_part, part_defect, slot_defect}
use Rattle.derivation_lines.specs.Line.{IsTailLine, tail_line_text}
use Rattle.derivation_lines.specs.Tail.{AreDerivationsKept, AreKeptAfter, AreNamed, ArePartsKept, IsNamedGroup, counts_of, cut_line, entry_line, factor_line, group_line, has_row_room, lines_of, lines_text, members_line, part_lines, row_line, row_lines}
use Rattle.derivation_lines.specs.laws.Parts.{IsNextPiece, piece_line, with_piece}
use Rattle.derivation_lines.proofs.LineTexts.{lines_text-append, lines_text-nil}
use Rattle.derivation_lines.proofs.Lines.{text_fits}
use Rattle.derivation_lines.proofs.TailsRead.{few_more}
use Rattle.head_laws.specs.TailLines.{tail_line_said}
use Rattle.head_laws.specs.TailDefects.{beginning_said, is_fewer, may_begin, may_come, open_behind, passed, rows_behind, rows_then, still_open, tail_defect, tails_defect, with_line}
use Rattle.head_laws.proofs.Parts.{First, first_of, last_parts, not_none, parts_of, some_part, whole_parts}
use Rattle.head_laws.proofs.HeadDefects.{TermsFrom, all_terms, tail_rises}
use Rattle.head_laws.proofs.TailLinesSaid.{said_is, said_line}

-- ---- one line

-- a line that may begin a derivation may be written, and passes the test
begin_written : (slots : ℕ) (l : TailLine) → MayBegin slots l → IsTailLine l × (may_begin slots l ≡ true)
begin_written slots (line.Cut row slot) may = (may, refl)
begin_written slots (line.Row divisor rest up down factors groups entries) may = (may.0, le-leb entries slots may.1)
begin_written slots (line.By _ _) may = absurd may
begin_written slots (line.Shift _ _) may = absurd may
begin_written slots (line.Lift _ _) may = absurd may
begin_written slots (line.Entry _ _ _) may = absurd may

beginning_is : (slots : ℕ) (l : TailLine) (later : ℕ) → MayBegin slots l → 0 < later → beginning_said slots (tail_line_text l) later ≡ Some l
beginning_is slots l later may some =
    let written = begin_written slots l may in
    cond-true (ltb 0 later) (passed (may_begin slots) (tail_line_said (tail_line_text l))) None (lt-ltb 0 later some)
    ∙ ap (passed (may_begin slots)) (said_line l written.0)
    ∙ cond-true (may_begin slots l) (Some l) None written.1

-- the next line begins a derivation
step_begin : (limits : Limits) (before number : ℕ) (l : TailLine) (bytes after : List ℕ) → MayBegin limits.slots l → bytes ≡ tail_line_text l ++ 10 ∷ after
    → tails_defect limits before None number (parts_of bytes)
    ≡ option_map_or (λ kind. Some (number, kind)) (beginning_defect limits before l) (tails_defect limits (rows_behind before l) (open_behind l) (number + 1) (parts_of after))
unfolding tails_defect
step_begin limits before number l bytes after may is =
    ap (tails_defect limits before None number) (whole_parts bytes (tail_line_text l) after (text_fits l (begin_written limits.slots l may).0).0 is)
    ∙ ap (λ (o : Option TailLine). option_map_or (λ (x : TailLine). option_map_or (λ (kind : ℕ). Some (number, kind)) (beginning_defect limits before x) (tails_defect limits (rows_behind before x) (open_behind x) (number + 1) (parts_of after))) o None)
    (beginning_is limits.slots l (length (parts_of after)) may (some_part after))

-- a line that may follow in a row may be written, and passes the test
pub follow_written : (derived : Derived) (next : Part) (l : TailLine) → MayFollow derived next l → IsTailLine l × (may_come derived next l ≡ true)
follow_written derived part.Factor (line.By row by) may = (may.0, may.1)
follow_written derived part.Factor (line.Cut _ _) may = absurd may
follow_written derived part.Factor (line.Row _ _ _ _ _ _ _) may = absurd may
follow_written derived part.Factor (line.Shift _ _) may = absurd may
follow_written derived part.Factor (line.Lift _ _) may = absurd may
follow_written derived part.Factor (line.Entry _ _ _) may = absurd may
follow_written derived part.Group (line.By row by) may = absurd may
follow_written derived part.Group (line.Cut _ _) may = absurd may
follow_written derived part.Group (line.Row _ _ _ _ _ _ _) may = absurd may
follow_written derived part.Group (line.Shift row shift) may = (may, refl)
follow_written derived part.Group (line.Lift slot shift) may = (may, refl)
follow_written derived part.Group (line.Entry _ _ _) may = absurd may
follow_written derived part.Entry (line.By row by) may = absurd may
follow_written derived part.Entry (line.Cut _ _) may = absurd may
follow_written derived part.Entry (line.Row _ _ _ _ _ _ _) may = absurd may
follow_written derived part.Entry (line.Shift _ _) may = absurd may
follow_written derived part.Entry (line.Lift _ _) may = absurd may
follow_written derived part.Entry (line.Entry slot fixed per) may = (may.0, may.1)

-- what is found behind a part of a row
abbrev pub onward : Limits → ℕ → Derived → Counts → ℕ → List (List ℕ) → Option (ℕ × ℕ)
onward limits before derived counts number parts = tails_defect limits (rows_then before derived counts) (still_open derived counts) number parts

-- the next line is that of a part that may come
step_part : (limits : Limits) (before : ℕ) (derived : Derived) (counts : Counts) (number : ℕ) (l : TailLine) (bytes after : List ℕ) → MayFollow derived (next_part derived counts) l → bytes ≡ tail_line_text l ++ 10 ∷ after
    → tails_defect limits before (Some (derived, counts)) number (parts_of bytes)
    ≡ option_map_or (λ kind. Some (number, kind)) (part_defect limits.slots (limits.rows + before) l) (onward limits before (with_line derived l) counts (number + 1) (parts_of after))
unfolding tails_defect
step_part limits before derived counts number l bytes after may is =
    let text = tail_line_text l in
    let next = next_part derived counts in
    let written = follow_written derived next l may in
    let later : TailLine → Option (ℕ × ℕ) = λ x. option_map_or (λ (kind : ℕ). Some (number, kind)) (part_defect limits.slots (limits.rows + before) x) (onward limits before (with_line derived x) counts (number + 1) (parts_of after)) in
    ap (tails_defect limits before (Some (derived, counts)) number) (whole_parts bytes text after (text_fits l written.0).0 is)
    ∙ cond-false (length (parts_of after) == 0) (Some (number, cond (ltb 200 (length text)) 1 2)) (option_map_or later (passed (may_come derived next) (tail_line_said text)) (Some (number, 1))) (not_none (length (parts_of after)) (some_part after))
    ∙ ap (λ (o : Option TailLine). option_map_or later (passed (may_come derived next) o) (Some (number, 1))) (said_line l written.0)
    ∙ ap (λ (b : Bool). option_map_or later (cond b (Some l) None) (Some (number, 1))) written.1

-- a part more, by its line
with_piece_is : (derived : Derived) (p : Piece) → with_line derived (piece_line p) ≡ with_piece derived p
with_piece_is derived (piece.Factor f) = refl
with_piece_is derived (piece.Entry e) = refl
with_piece_is derived (piece.Group g) = members_is derived g.members g.shift
  where
    members_is : (derived : Derived) (members : Members) (shift : ℤ) → with_line derived (members_line members shift) ≡ record derived { groups = derived.groups ++ record { members = members; shift = shift } ∷ [] }
    members_is derived (One slot) shift = refl
    members_is derived (OfRow row) shift = refl

-- ---- the parts of a row

-- the tests tell
pub fewer_test : (derived : Derived) (counts : Counts) → IsFewer derived counts → is_fewer derived counts ≡ true
fewer_test derived counts (inl less) = or_left _ _ (or_left _ _ (lt-ltb (length derived.factors) counts.factors less))
fewer_test derived counts (inr (inl less)) = or_left _ _ (or_right _ _ (lt-ltb (length derived.groups) counts.groups less))
fewer_test derived counts (inr (inr less)) = or_right _ _ (lt-ltb (length derived.entries) counts.entries less)

-- in a row that has fewer parts the next one comes
onward_fewer : (limits : Limits) (before : ℕ) (derived : Derived) (counts : Counts) (number : ℕ) (parts : List (List ℕ)) → IsFewer derived counts → onward limits before derived counts number parts ≡ tails_defect limits before (Some (derived, counts)) number parts
onward_fewer limits before derived counts number parts fewer =
    ap (λ (b : Bool). tails_defect limits (cond b before (before + 1)) (cond b (Some (derived, counts)) None) number parts) (fewer_test derived counts fewer)

-- a row with pieces more
abbrev with_pieces : Derived → List Piece → Derived
with_pieces derived [] = derived
with_pieces derived (p ∷ ps) = with_pieces (with_piece derived p) ps

-- pieces that may come one after another
abbrev PiecesFrom : ℕ → ℕ → Counts → Derived → List Piece → Type 0
PiecesFrom slots rows counts derived [] = ⊤
PiecesFrom slots rows counts derived (p ∷ ps) = IsFewer derived counts × IsNextPiece slots rows derived (next_part derived counts) p × PiecesFrom slots rows counts (with_piece derived p) ps

-- the text of a line and more
pub line_front : (l : TailLine) (lines : List TailLine) (rest : List ℕ) → lines_text (l ∷ lines) ++ rest ≡ tail_line_text l ++ 10 ∷ (lines_text lines ++ rest)
unfolding lines_text
line_front l lines rest = append_assoc (tail_line_text l ++ 10 ∷ []) (lines_text lines) rest ∙ append_assoc (tail_line_text l) (10 ∷ []) (lines_text lines ++ rest)

walk_pieces : (limits : Limits) (before : ℕ) (counts : Counts) (ps : List Piece) (derived : Derived) (number : ℕ) (rest : List ℕ) → PiecesFrom limits.slots (limits.rows + before) counts derived ps
    → onward limits before derived counts number (parts_of (lines_text (map piece_line ps) ++ rest)) ≡ onward limits before (with_pieces derived ps) counts (number + length ps) (parts_of rest)
walk_pieces limits before counts [] derived number rest are =
    let on : number ≡ number + 0 = omega arith in
    ap (λ (t : List ℕ). onward limits before derived counts number (parts_of (t ++ rest))) lines_text-nil
    ∙ ap (λ (m : ℕ). onward limits before derived counts m (parts_of rest)) on
walk_pieces limits before counts (p ∷ ps) derived number rest are =
    let l = piece_line p in
    let more = lines_text (map piece_line ps) ++ rest in
    let on : number + 1 + length ps ≡ number + length (p ∷ ps) = omega arith in
    onward_fewer limits before derived counts number (parts_of (lines_text (map piece_line (p ∷ ps)) ++ rest)) are.0
    ∙ step_part limits before derived counts number l (lines_text (map piece_line (p ∷ ps)) ++ rest) more are.1.follows (line_front l (map piece_line ps) rest)
    ∙ ap (λ (o : Option ℕ). option_map_or (λ (kind : ℕ). Some (number, kind)) o (onward limits before (with_line derived l) counts (number + 1) (parts_of more))) are.1.sound
    ∙ ap (λ (d : Derived). onward limits before d counts (number + 1) (parts_of more)) (with_piece_is derived p)
    ∙ walk_pieces limits before counts ps (with_piece derived p) (number + 1) rest are.2
    ∙ ap (λ (m : ℕ). onward limits before (with_pieces (with_piece derived p) ps) counts m (parts_of rest)) on

-- the pieces of a row
abbrev pieces_of : Derived → List Piece
pieces_of derived = map piece.Factor derived.factors ++ (map piece.Group derived.groups ++ map piece.Entry derived.entries)

-- a row with the same numbers and no parts
abbrev bare : Derived → Derived
bare derived = record derived { factors = []; groups = []; entries = [] }

with_pieces-append : (derived : Derived) (ps qs : List Piece) → with_pieces derived (ps ++ qs) ≡ with_pieces (with_pieces derived ps) qs
with_pieces-append derived [] qs = refl
with_pieces-append derived (p ∷ ps) qs = with_pieces-append (with_piece derived p) ps qs

with_factors : (derived : Derived) (fs : List Factor) → with_pieces derived (map piece.Factor fs) ≡ record derived { factors = derived.factors ++ fs }
with_factors derived [] = ap (λ (xs : List Factor). record derived { factors = xs }) (sym (append-nil derived.factors))
with_factors derived (f ∷ fs) = with_factors (with_piece derived (piece.Factor f)) fs ∙ ap (λ (xs : List Factor). record derived { factors = xs }) (append_assoc derived.factors (f ∷ []) fs)

with_groups : (derived : Derived) (gs : List Group) → with_pieces derived (map piece.Group gs) ≡ record derived { groups = derived.groups ++ gs }
with_groups derived [] = ap (λ (xs : List Group). record derived { groups = xs }) (sym (append-nil derived.groups))
with_groups derived (g ∷ gs) = with_groups (with_piece derived (piece.Group g)) gs ∙ ap (λ (xs : List Group). record derived { groups = xs }) (append_assoc derived.groups (g ∷ []) gs)

with_entries : (derived : Derived) (es : List Entry) → with_pieces derived (map piece.Entry es) ≡ record derived { entries = derived.entries ++ es }
with_entries derived [] = ap (λ (xs : List Entry). record derived { entries = xs }) (sym (append-nil derived.entries))
with_entries derived (e ∷ es) = with_entries (with_piece derived (piece.Entry e)) es ∙ ap (λ (xs : List Entry). record derived { entries = xs }) (append_assoc derived.entries (e ∷ []) es)

-- with all its pieces it is the row
all_pieces : (derived : Derived) → with_pieces (bare derived) (pieces_of derived) ≡ derived
all_pieces derived =
    let fs = map piece.Factor derived.factors in
    let gs = map piece.Group derived.groups in
    let es = map piece.Entry derived.entries in
    with_pieces-append (bare derived) fs (gs ++ es)
    ∙ ap (λ (d : Derived). with_pieces d (gs ++ es)) (with_factors (bare derived) derived.factors)
    ∙ with_pieces-append (record derived { groups = []; entries = [] }) gs es
    ∙ ap (λ (d : Derived). with_pieces d es) (with_groups (record derived { groups = []; entries = [] }) derived.groups)
    ∙ with_entries (record derived { entries = [] }) derived.entries

-- their lines are those of its parts
same_lines : {X : Type 0} (made : X → Piece) (text_line : X → TailLine) → ((x : X) → piece_line (made x) ≡ text_line x) → (xs : List X) → map piece_line (map made xs) ≡ map text_line xs
same_lines made text_line same [] = refl
same_lines made text_line same (x ∷ xs) = ap₂ (λ (l : TailLine) (ls : List TailLine). l ∷ ls) (same x) (same_lines made text_line same xs)

pieces_lines : (derived : Derived) → map piece_line (pieces_of derived) ≡ part_lines derived
pieces_lines derived =
    map-append piece_line (map piece.Factor derived.factors) (map piece.Group derived.groups ++ map piece.Entry derived.entries)
    ∙ ap₂ (λ (xs ys : List TailLine). xs ++ ys) (same_lines piece.Factor factor_line (λ f. refl) derived.factors)
    (map-append piece_line (map piece.Group derived.groups) (map piece.Entry derived.entries)
    ∙ ap₂ (λ (xs ys : List TailLine). xs ++ ys) (same_lines piece.Group group_line (λ g. refl) derived.groups) (same_lines piece.Entry entry_line (λ e. refl) derived.entries))

pieces_long : (derived : Derived) → length (pieces_of derived) ≡ length (part_lines derived)
pieces_long derived = sym (length-map (pieces_of derived) piece_line) ∙ ap length (pieces_lines derived)

-- ---- pieces that may come

-- one piece
next_piece : (slots rows : ℕ) (derived : Derived) (counts : Counts) (own : Part) (p : Piece) → next_part derived counts ≡ own → MayFollow derived own (piece_line p) → part_defect slots rows (piece_line p) ≡ None → IsNextPiece slots rows derived (next_part derived counts) p
next_piece slots rows derived counts own p is may sound = record { follows = subst (λ (n : Part). MayFollow derived n (piece_line p)) (sym is) may; sound = sound }

-- there is what is named
there_sound : (count number kind : ℕ) → number < count → cond {A = Option ℕ} (nat_le count number) (Some kind) None ≡ None
there_sound count number kind less = cond-false (leb count number) (Some kind) None (lt-leb count number less)

-- factors whose rows ascend, above the last one
abbrev FactorsFrom : ℕ → Option ℕ → List Factor → Type 0
FactorsFrom rows above [] = ⊤
FactorsFrom rows above (f ∷ fs) = IsFactor rows f × (follows above f.row ≡ true) × FactorsFrom rows (Some f.row) fs

last_row-more : (above : Option ℕ) (fs : List Factor) (f : Factor) → last_row above (fs ++ f ∷ []) ≡ Some f.row
last_row-more above [] f = refl
last_row-more above (g ∷ fs) f = last_row-more (Some g.row) fs f

last_slot_more : (above : Option ℕ) (es : List Entry) (e : Entry) → last_slot above (es ++ e ∷ []) ≡ Some e.slot
last_slot_more above [] e = refl
last_slot_more above (g ∷ es) e = last_slot_more (Some g.slot) es e

come_factors : (slots rows : ℕ) (counts : Counts) (fs : List Factor) (derived : Derived) (ps : List Piece) → rows ≤ 500000 → FactorsFrom rows (last_row None derived.factors) fs → length derived.factors + length fs ≤ counts.factors
    → PiecesFrom slots rows counts (with_pieces derived (map piece.Factor fs)) ps → PiecesFrom slots rows counts derived (map piece.Factor fs ++ ps)
come_factors slots rows counts [] derived ps few are fits later = later
come_factors slots rows counts (f ∷ fs) derived ps few are fits later =
    let less : length derived.factors < counts.factors = omega (arith, fits) in
    let next : next_part derived counts ≡ part.Factor = cond-true (ltb (length derived.factors) counts.factors) part.Factor (cond (ltb (length derived.groups) counts.groups) part.Group part.Entry) (lt-ltb (length derived.factors) counts.factors less) in
    let written : IsTailLine (factor_line f) = (omega (arith, are.0.row, few), (are.0.some, are.0.small)) in
    let more = length-append derived.factors (f ∷ []) in (
      inl less,
      next_piece slots rows derived counts part.Factor (piece.Factor f) next (written, are.1) (there_sound rows f.row 4 are.0.row),
      come_factors slots rows counts fs (with_piece derived (piece.Factor f)) ps few (subst (λ (o : Option ℕ). FactorsFrom rows o fs) (sym (last_row-more None derived.factors f)) are.2) (omega (arith, fits, more)) later,
    )

-- the line of a group that is named
group_written : (slots rows : ℕ) (derived : Derived) (members : Members) (shift : ℤ) → slots ≤ 4096 → rows ≤ 500000 → AreNamed slots rows members → unsigned_abs shift ≤ 1000000000000
    → MayFollow derived part.Group (members_line members shift) × (part_defect slots rows (members_line members shift) ≡ None)
group_written slots rows derived (One slot) shift few few_rows there small = ((omega (arith, there, few), small), there_sound slots slot 5 there)
group_written slots rows derived (OfRow row) shift few few_rows there small = ((omega (arith, there, few_rows), small), there_sound rows row 4 there)

come_groups : (slots rows : ℕ) (counts : Counts) (gs : List Group) (derived : Derived) (ps : List Piece) → slots ≤ 4096 → rows ≤ 500000 → All (IsNamedGroup slots rows) gs → (0 < length gs → counts.factors ≤ length derived.factors)
    → length derived.groups + length gs ≤ counts.groups → PiecesFrom slots rows counts (with_pieces derived (map piece.Group gs)) ps → PiecesFrom slots rows counts derived (map piece.Group gs ++ ps)
come_groups slots rows counts [] derived ps few few_rows are full fits later = later
come_groups slots rows counts (g ∷ gs) derived ps few few_rows are full fits later =
    let first = All-head (IsNamedGroup slots rows) g gs are in
    let less : length derived.groups < counts.groups = omega (arith, fits) in
    let all = full (omega arith) in
    let next : next_part derived counts ≡ part.Group =
    cond-false (ltb (length derived.factors) counts.factors) part.Factor (cond (ltb (length derived.groups) counts.groups) part.Group part.Entry) (le-ltb (length derived.factors) counts.factors all)
    ∙ cond-true (ltb (length derived.groups) counts.groups) part.Group part.Entry (lt-ltb (length derived.groups) counts.groups less) in
    let tells = group_written slots rows derived g.members g.shift few few_rows first.there first.small in
    let more = length-append derived.groups (g ∷ []) in (
      inr (inl less),
      next_piece slots rows derived counts part.Group (piece.Group g) next tells.0 tells.1,
      come_groups slots rows counts gs (with_piece derived (piece.Group g)) ps few few_rows (All-tail (IsNamedGroup slots rows) g gs are) (λ some. all) (omega (arith, fits, more)) later,
    )

come_entries : (slots rows : ℕ) (counts : Counts) (es : List Entry) (derived : Derived) → slots ≤ 4096 → TermsFrom slots (last_slot None derived.entries) es
    → (0 < length es → (counts.factors ≤ length derived.factors) × (counts.groups ≤ length derived.groups)) → length derived.entries + length es ≤ counts.entries → PiecesFrom slots rows counts derived (map piece.Entry es)
come_entries slots rows counts [] derived few are full fits = tt
come_entries slots rows counts (e ∷ es) derived few are full fits =
    let less : length derived.entries < counts.entries = omega (arith, fits) in
    let all = full (omega arith) in
    let next : next_part derived counts ≡ part.Entry =
    cond-false (ltb (length derived.factors) counts.factors) part.Factor (cond (ltb (length derived.groups) counts.groups) part.Group part.Entry) (le-ltb (length derived.factors) counts.factors all.0)
    ∙ cond-false (ltb (length derived.groups) counts.groups) part.Group part.Entry (le-ltb (length derived.groups) counts.groups all.1) in
    let more = length-append derived.entries (e ∷ []) in (
      inr (inr less),
      next_piece slots rows derived counts part.Entry (piece.Entry e) next ((omega (arith, are.0.there, few), are.0.fixed, are.0.per, are.0.counts), are.0.above_last) (there_sound slots e.slot 5 are.0.there),
      come_entries slots rows counts es (with_piece derived (piece.Entry e)) few (subst (λ (o : Option ℕ). TermsFrom slots o es) (sym (last_slot_more None derived.entries e)) are.1) (λ some. all) (omega (arith, fits, more)),
    )

-- factors that keep the limits ascend one after another
factors_chain : (rows : ℕ) (above : Option ℕ) (fs : List Factor) → All (IsFactor rows) fs → IsStrictlyIncreasing (map (λ (f : Factor). f.row) fs) → ((next : Factor) (more : List Factor) → fs ≡ next ∷ more → follows above next.row ≡ true) → FactorsFrom rows above fs
factors_chain rows above [] are up first = tt
factors_chain rows above (f ∷ fs) are up first = (
  All-head (IsFactor rows) f fs are,
  first f fs refl,
  factors_chain rows (Some f.row) fs (All-tail (IsFactor rows) f fs are) (tail_rises f.row (map (λ (x : Factor). x.row) fs) up)
      (λ next more is. let less : f.row < next.row = subst (λ (xs : List Factor). IsStrictlyIncreasing (map (λ (x : Factor). x.row) (f ∷ xs))) is up 0 (omega arith) in lt-ltb f.row next.row less),
)

-- all pieces of a row that keeps the limits may come
pieces_come : (slots rows : ℕ) (counts : Counts) (derived : Derived) → slots ≤ 4096 → rows ≤ 500000 → ArePartsKept slots rows derived → IsFilling derived counts → PiecesFrom slots rows counts (bare derived) (pieces_of derived)
pieces_come slots rows counts derived few few_rows kept filling =
    let fs = map piece.Factor derived.factors in
    let gs = map piece.Group derived.groups in
    let es = map piece.Entry derived.entries in
    let one : Derived = record derived { groups = []; entries = [] } in
    let two : Derived = record derived { entries = [] } in
    let few_factors : 0 + length derived.factors ≤ counts.factors = omega (arith, filling.few_factors) in
    let few_groups : 0 + length derived.groups ≤ counts.groups = omega (arith, filling.few_groups) in
    let few_entries : 0 + length derived.entries ≤ counts.entries = omega (arith, filling.few_entries) in
    come_factors slots rows counts derived.factors (bare derived) (gs ++ es) few_rows (factors_chain rows None derived.factors kept.factors kept.ascending (λ next more is. refl)) few_factors
    (subst (λ (d : Derived). PiecesFrom slots rows counts d (gs ++ es)) (sym (with_factors (bare derived) derived.factors))
    (come_groups slots rows counts derived.groups one es few few_rows kept.groups (λ some. le_of_eq (sym (filling.groups_after some))) few_groups
    (subst (λ (d : Derived). PiecesFrom slots rows counts d es) (sym (with_groups one derived.groups))
    (come_entries slots rows counts derived.entries two few (all_terms slots derived.entries kept.entries)
    (λ some. (le_of_eq (sym (filling.entries_after some).0), le_of_eq (sym (filling.entries_after some).1))) few_entries))))

-- the lines of a row's parts, from its own line on
walk_row : (limits : Limits) (before number : ℕ) (derived : Derived) (counts : Counts) (rest : List ℕ) → limits.slots ≤ 4096 → limits.rows + before ≤ 500000 → ArePartsKept limits.slots (limits.rows + before) derived → IsFilling derived counts
    → onward limits before (bare derived) counts number (parts_of (lines_text (part_lines derived) ++ rest)) ≡ onward limits before derived counts (number + length (part_lines derived)) (parts_of rest)
walk_row limits before number derived counts rest few few_rows kept filling =
    ap (λ (ls : List TailLine). onward limits before (bare derived) counts number (parts_of (lines_text ls ++ rest))) (sym (pieces_lines derived))
    ∙ walk_pieces limits before counts (pieces_of derived) (bare derived) number rest (pieces_come limits.slots (limits.rows + before) counts derived few few_rows kept filling)
    ∙ ap (λ (d : Derived). onward limits before d counts (number + length (pieces_of derived)) (parts_of rest)) (all_pieces derived)
    ∙ ap (λ (m : ℕ). onward limits before derived counts (number + m) (parts_of rest)) (pieces_long derived)

-- ---- whole derivations

-- no number is below itself
no_less : (n : ℕ) → ltb n n ≡ false
no_less n = le-ltb n n (omega arith)

-- behind a row with all its parts no row is open
onward_full : (limits : Limits) (before : ℕ) (derived : Derived) (number : ℕ) (parts : List (List ℕ)) → onward limits before derived (counts_of derived) number parts ≡ tails_defect limits (before + 1) None number parts
onward_full limits before derived number parts =
    ap (λ (b : Bool). tails_defect limits (cond b before (before + 1)) (cond b (Some (derived, counts_of derived)) None) number parts)
    (or_from _ _ (or_from _ _ (no_less (length derived.factors)) (no_less (length derived.groups))) (no_less (length derived.entries)))

filled : (derived : Derived) → IsFilling derived (counts_of derived)
filled derived = record { few_factors = omega arith; few_groups = omega arith; few_entries = omega arith; groups_after = λ some. refl; entries_after = λ some. (refl, refl) }

-- the text of a row and more
row_front : (derived : Derived) (counts : Counts) (lines : List TailLine) (rest : List ℕ)
    → lines_text (row_lines derived counts ++ lines) ++ rest ≡ tail_line_text (row_line derived counts) ++ 10 ∷ (lines_text (part_lines derived) ++ (lines_text lines ++ rest))
row_front derived counts lines rest =
    let own = tail_line_text (row_line derived counts) in
    line_front (row_line derived counts) (part_lines derived ++ lines) rest
    ∙ ap (λ (t : List ℕ). own ++ 10 ∷ (t ++ rest)) (lines_text-append (part_lines derived) lines)
    ∙ ap (λ (t : List ℕ). own ++ 10 ∷ t) (append_assoc (lines_text (part_lines derived)) (lines_text lines) rest)

walk_derivations : (limits : Limits) (ds : List Derivation) (before number : ℕ) (rest : List ℕ) → limits.slots ≤ 4096 → limits.rows ≤ 400000 → before ≤ 4096 → AreKeptAfter limits before ds
    → tails_defect limits before None number (parts_of (lines_text (lines_of ds) ++ rest)) ≡ tails_defect limits (before + rows_of ds) None (number + length (lines_of ds)) (parts_of rest)
walk_derivations limits [] before number rest few few_rows low kept =
    let count : before ≡ before + 0 = omega arith in
    let on : number ≡ number + 0 = omega arith in
    ap (λ (t : List ℕ). tails_defect limits before None number (parts_of (t ++ rest))) lines_text-nil
    ∙ ap (λ (m : ℕ). tails_defect limits m None number (parts_of rest)) count
    ∙ ap (λ (m : ℕ). tails_defect limits (before + 0) None m (parts_of rest)) on
walk_derivations limits (Cut cut ∷ ds) before number rest few few_rows low kept =
    let l = cut_line cut in
    let more = lines_text (lines_of ds) ++ rest in
    let count : before ≡ before + 0 = omega arith in
    let all : before + 0 + rows_of ds ≡ before + rows_of ds = omega arith in
    let on : number + 1 + length (lines_of ds) ≡ number + length (l ∷ lines_of ds) = omega arith in
    let may : MayBegin limits.slots l = (omega (arith, kept.0.0, few_rows, low), omega (arith, kept.0.1, few)) in
    let sound : beginning_defect limits before l ≡ None =
    cond-false (leb (limits.rows + before) cut.row) (Some 4) (slot_defect limits.slots cut.slot) (lt-leb (limits.rows + before) cut.row kept.0.0) ∙ there_sound limits.slots cut.slot 5 kept.0.1 in
    step_begin limits before number l (lines_text (l ∷ lines_of ds) ++ rest) more may (line_front l (lines_of ds) rest)
    ∙ ap (λ (o : Option ℕ). option_map_or (λ (kind : ℕ). Some (number, kind)) o (tails_defect limits before None (number + 1) (parts_of more))) sound
    ∙ ap (λ (m : ℕ). tails_defect limits m None (number + 1) (parts_of more)) count
    ∙ walk_derivations limits ds (before + 0) (number + 1) rest few few_rows (few_more limits before (Cut cut) low kept.0) kept.1
    ∙ ap (λ (m : ℕ). tails_defect limits m None (number + 1 + length (lines_of ds)) (parts_of rest)) all
    ∙ ap (λ (m : ℕ). tails_defect limits (before + rows_of ds) None m (parts_of rest)) on
walk_derivations limits (Row derived ∷ ds) before number rest few few_rows low kept =
    let counts = counts_of derived in
    let l = row_line derived counts in
    let more = lines_text (lines_of ds) ++ rest in
    let parts = lines_text (part_lines derived) ++ more in
    let all : before + 1 + rows_of ds ≡ before + rows_of (Row derived ∷ ds) = omega arith in
    let on : number + 1 + length (part_lines derived) + length (lines_of ds) ≡ number + length (lines_of (Row derived ∷ ds)) = omega (arith, length-append (part_lines derived) (lines_of ds)) in
    let may : MayBegin limits.slots l = (kept.0.0.line, kept.0.0.few_entries) in
    let sound : beginning_defect limits before l ≡ None = cond-true (has_row_room limits (before + 1)) None (Some 21) kept.0.1 in
    step_begin limits before number l (lines_text (lines_of (Row derived ∷ ds)) ++ rest) parts may (row_front derived counts (lines_of ds) rest)
    ∙ ap (λ (o : Option ℕ). option_map_or (λ (kind : ℕ). Some (number, kind)) o (onward limits before (bare derived) counts (number + 1) (parts_of parts))) sound
    ∙ walk_row limits before (number + 1) derived counts more few (omega (arith, few_rows, low)) kept.0.0.parts (filled derived)
    ∙ onward_full limits before derived (number + 1 + length (part_lines derived)) (parts_of more)
    ∙ walk_derivations limits ds (before + 1) (number + 1 + length (part_lines derived)) rest few few_rows (few_more limits before (Row derived) low kept.0) kept.1
    ∙ ap (λ (m : ℕ). tails_defect limits m None (number + 1 + length (part_lines derived) + length (lines_of ds)) (parts_of rest)) all
    ∙ ap (λ (m : ℕ). tails_defect limits (before + rows_of (Row derived ∷ ds)) None m (parts_of rest)) on

-- derivations that keep the limits are few rows
rows_first : (d : Derivation) (ds : List Derivation) → rows_of (d ∷ ds) ≡ rows_of (d ∷ []) + rows_of ds
rows_first (Cut _) ds = omega arith
rows_first (Row _) ds = omega arith

few_in_all : (limits : Limits) (ds : List Derivation) (before : ℕ) → before ≤ 4096 → AreKeptAfter limits before ds → before + rows_of ds ≤ 4096
few_in_all limits [] before low kept = omega (arith, low)
few_in_all limits (d ∷ ds) before low kept = omega (arith, rows_first d ds, few_in_all limits ds (before + rows_of (d ∷ [])) (few_more limits before d low kept.0) kept.1)

-- ---- from the relation to the function

last_test : (limits : Limits) (before : ℕ) (row : Derived × Counts) (number : ℕ) (bytes : List ℕ) → HasNoFeed bytes
    → tails_defect limits before (Some row) number (parts_of bytes) ≡ Some (number, cond (ltb 200 (length bytes)) 1 2)
unfolding tails_defect
last_test limits before row number bytes plain = ap (tails_defect limits before (Some row) number) (last_parts bytes plain)

other_test : (limits : Limits) (before : ℕ) (row : Derived × Counts) (number : ℕ) (bytes part after : List ℕ) → HasNoFeed part → bytes ≡ part ++ 10 ∷ after → passed (may_come row.0 (next_part row.0 row.1)) (tail_line_said part) ≡ None
    → tails_defect limits before (Some row) number (parts_of bytes) ≡ Some (number, 1)
unfolding tails_defect
other_test limits before row number bytes part after plain is none =
    let said = passed (may_come row.0 (next_part row.0 row.1)) (tail_line_said part) in
    let later : TailLine → Option (ℕ × ℕ) = λ x. option_map_or (λ (kind : ℕ). Some (number, kind)) (part_defect limits.slots (limits.rows + before) x) (onward limits before (with_line row.0 x) row.1 (number + 1) (parts_of after)) in
    ap (tails_defect limits before (Some row) number) (whole_parts bytes part after plain is)
    ∙ cond-false (length (parts_of after) == 0) (Some (number, cond (ltb 200 (length part)) 1 2)) (option_map_or later said (Some (number, 1))) (not_none (length (parts_of after)) (some_part after))
    ∙ ap (λ (o : Option TailLine). option_map_or later o (Some (number, 1))) none

-- a line that may be written and passes the test may follow
pub may_follow : (derived : Derived) (next : Part) (l : TailLine) → IsTailLine l → may_come derived next l ≡ true → MayFollow derived next l
may_follow derived part.Factor (line.By row by) is may = (is, may)
may_follow derived part.Factor (line.Cut _ _) is may = absurd (cc)
may_follow derived part.Factor (line.Row _ _ _ _ _ _ _) is may = absurd (cc)
may_follow derived part.Factor (line.Shift _ _) is may = absurd (cc)
may_follow derived part.Factor (line.Lift _ _) is may = absurd (cc)
may_follow derived part.Factor (line.Entry _ _ _) is may = absurd (cc)
may_follow derived part.Group (line.By row by) is may = absurd (cc)
may_follow derived part.Group (line.Cut _ _) is may = absurd (cc)
may_follow derived part.Group (line.Row _ _ _ _ _ _ _) is may = absurd (cc)
may_follow derived part.Group (line.Shift row shift) is may = is
may_follow derived part.Group (line.Lift slot shift) is may = is
may_follow derived part.Group (line.Entry _ _ _) is may = absurd (cc)
may_follow derived part.Entry (line.By row by) is may = absurd (cc)
may_follow derived part.Entry (line.Cut _ _) is may = absurd (cc)
may_follow derived part.Entry (line.Row _ _ _ _ _ _ _) is may = absurd (cc)
may_follow derived part.Entry (line.Shift _ _) is may = absurd (cc)
may_follow derived part.Entry (line.Lift _ _) is may = absurd (cc)
may_follow derived part.Entry (line.Entry slot fixed per) is may = (is, may)

-- a part in front of which no part may follow says none
none_said : (derived : Derived) (next : Part) (bytes part after : List ℕ) → bytes ≡ part ++ 10 ∷ after → NoneFirst (MayFollow derived next) bytes → (said : Option TailLine) → tail_line_said part ≡ said → passed (may_come derived next) said ≡ None
none_said derived next bytes part after is none None said = refl
none_said derived next bytes part after is none (Some l) said =
    elim (cases_Bool (may_come derived next l)) [
      | inl may ↦
          let tells = said_is part l said in
          absurd (none l (may_follow derived next l tells.0 may) (record { after = after; is = is ∙ ap (λ (t : List ℕ). t ++ 10 ∷ after) (sym tells.1) }))
      | inr may_not ↦ cond-false (may_come derived next l) (Some l) None may_not
    ]

bad_part : (limits : Limits) (before : ℕ) (derived : Derived) (counts : Counts) (number kind : ℕ) (bytes : List ℕ) → IsBadPart limits.slots (limits.rows + before) derived (next_part derived counts) bytes kind
    → tails_defect limits before (Some (derived, counts)) number (parts_of bytes) ≡ Some (number, kind)
bad_part limits before derived counts number kind bytes (inl cut) =
    last_test limits before (derived, counts) number bytes cut.1.0
    ∙ ap (λ (b : Bool). Some (number, cond b 1 2)) (le-ltb 200 (length bytes) cut.1.1)
    ∙ ap (λ (k : ℕ). Some (number, k)) (sym cut.0)
bad_part limits before derived counts number kind bytes (inr (inl none)) = at (first_of bytes)
  where
    at : HasNoFeed bytes ⊎ First bytes → tails_defect limits before (Some (derived, counts)) number (parts_of bytes) ≡ Some (number, kind)
    at (inl plain) =
        elim (cases_lt 200 (length bytes)) [
          | inl long ↦
              last_test limits before (derived, counts) number bytes plain
              ∙ ap (λ (b : Bool). Some (number, cond b 1 2)) (lt-ltb 200 (length bytes) long)
              ∙ ap (λ (k : ℕ). Some (number, k)) (sym none.0)
          | inr short ↦ absurd (none.1 (plain, short))
        ]
    at (inr first) =
        other_test limits before (derived, counts) number bytes first.part first.after first.plain first.is
        (none_said derived (next_part derived counts) bytes first.part first.after first.is none.2 (tail_line_said first.part) refl)
        ∙ ap (λ (k : ℕ). Some (number, k)) (sym none.0)
bad_part limits before derived counts number kind bytes (inr (inr far)) =
    step_part limits before derived counts number far.line bytes far.first.after far.may_follow far.first.is
    ∙ ap (λ (o : Option ℕ). option_map_or (λ (k : ℕ). Some (number, k)) o (onward limits before (with_line derived far.line) counts (number + 1) (parts_of far.first.after))) far.far

bad_start : (limits : Limits) (number : ℕ) (ds : List Derivation) (bytes : List ℕ) (defect : Defect) → limits.slots ≤ 4096 → limits.rows ≤ 400000 → AreDerivationsKept limits ds
    → IsBadAtStart limits (rows_of ds) number (lines_of ds) bytes defect → tails_defect limits 0 None number (parts_of bytes) ≡ Some (defect.line, defect.kind)
bad_start limits number ds bytes defect few few_rows kept bad =
    let l = bad.bad.line in
    let on = number + length (lines_of ds) in
    let count : 0 + rows_of ds ≡ rows_of ds = omega arith in
    ap (λ (t : List ℕ). tails_defect limits 0 None number (parts_of t)) bad.is
    ∙ walk_derivations limits ds 0 number bad.rest few few_rows (omega arith) kept
    ∙ ap (λ (m : ℕ). tails_defect limits m None on (parts_of bad.rest)) count
    ∙ step_begin limits (rows_of ds) on l bad.rest bad.bad.first.after bad.bad.begins bad.bad.first.is
    ∙ ap (λ (o : Option ℕ). option_map_or (λ (kind : ℕ). Some (on, kind)) o (tails_defect limits (rows_behind (rows_of ds) l) (open_behind l) (on + 1) (parts_of bad.bad.first.after))) bad.bad.defect
    ∙ ap (λ (m : ℕ). Some (m, defect.kind)) (sym bad.line)

bad_in_row : (limits : Limits) (number : ℕ) (ds : List Derivation) (bytes : List ℕ) (defect : Defect) → limits.slots ≤ 4096 → limits.rows ≤ 400000 → AreDerivationsKept limits ds
    → IsBadInRow limits (rows_of ds) number (lines_of ds) bytes defect → tails_defect limits 0 None number (parts_of bytes) ≡ Some (defect.line, defect.kind)
bad_in_row limits number ds bytes defect few few_rows kept bad =
    let derived = bad.derived in
    let counts = bad.counts in
    let l = row_line derived counts in
    let lines = row_lines derived counts in
    let rest = lines_text lines ++ bad.rest in
    let parts = lines_text (part_lines derived) ++ bad.rest in
    let on = number + length (lines_of ds) in
    let before = rows_of ds in
    let count : 0 + before ≡ before = omega arith in
    let low : before ≤ 4096 = omega (arith, few_in_all limits ds 0 (omega arith) kept) in
    let at : on + 1 + length (part_lines derived) ≡ defect.line = omega (arith, bad.line, length-append (lines_of ds) lines) in
    let text : lines_text (lines_of ds ++ lines) ++ bad.rest ≡ lines_text (lines_of ds) ++ rest =
    ap (λ (t : List ℕ). t ++ bad.rest) (lines_text-append (lines_of ds) lines) ∙ append_assoc (lines_text (lines_of ds)) (lines_text lines) bad.rest in
    ap (λ (t : List ℕ). tails_defect limits 0 None number (parts_of t)) (bad.is ∙ text)
    ∙ walk_derivations limits ds 0 number rest few few_rows (omega arith) kept
    ∙ ap (λ (m : ℕ). tails_defect limits m None on (parts_of rest)) count
    ∙ step_begin limits before on l rest parts bad.begins (line_front l (part_lines derived) bad.rest)
    ∙ ap (λ (o : Option ℕ). option_map_or (λ (kind : ℕ). Some (on, kind)) o (onward limits before (bare derived) counts (on + 1) (parts_of parts))) bad.sound
    ∙ walk_row limits before (on + 1) derived counts bad.rest few (omega (arith, few_rows, low)) bad.parts bad.filling
    ∙ onward_fewer limits before derived counts (on + 1 + length (part_lines derived)) (parts_of bad.rest) bad.fewer
    ∙ bad_part limits before derived counts (on + 1 + length (part_lines derived)) defect.kind bad.rest bad.bad
    ∙ ap (λ (m : ℕ). Some (m, defect.kind)) at

pub to_function : (limits : Limits) (head : Head) (bytes : List ℕ) (defect : Defect) → limits.slots ≤ 4096 → limits.rows ≤ 400000 → IsBadTail limits head bytes defect
    → tail_defect limits head bytes ≡ Some (defect.line, defect.kind)
to_function limits head bytes defect few few_rows bad = at bad.bad
  where
    at : IsBadAt limits (rows_of bad.derivations) (1 + head.count) (lines_of bad.derivations) (drop head.bytes bytes) defect → tail_defect limits head bytes ≡ Some (defect.line, defect.kind)
    at (inl is) = bad_start limits (1 + head.count) bad.derivations (drop head.bytes bytes) defect few few_rows bad.kept is
    at (inr is) = bad_in_row limits (1 + head.count) bad.derivations (drop head.bytes bytes) defect few few_rows bad.kept is
