-- Derivations by their lines: one text of lines, one list of derivations of lines.
use Rattle.std.proofs.Common.{◌≡◌, ◌⊎◌, inl, inr, ℕ, ◌+◌, ◌<◌, true, List, [], ◌∷◌, ◌++◌, length, length-append, map, drop, get_or, Option, Some, refl, sym, ap, ap₂, ◌∙◌, subst, arith, append_assoc, ℤ}
use Rattle.std.specs.List.{All}
use Rattle.std.specs.List.Sorted.{IsStrictlyIncreasing}
use Rattle.std.proofs.Math.Seq.{drop-append_seam}
use Rattle.std.proofs.lemmas.Bool.Decides.{nat_tests}
use Rattle.std.proofs.lemmas.List.{length-map}
use Rattle.std.proofs.lemmas.List.Elements.{All-head, All-tail}
use Rattle.log_lines.specs.Grammar.{follows}
use Rattle.row_kit.specs.declared.row.Entry.{Entry}
use Rattle.derived_rows.specs.declared.derived.Derived.{Derived}
use Rattle.derived_rows.specs.declared.derived.Factor.{Factor}
use Rattle.derived_rows.specs.declared.derived.Group.{Group}
use Rattle.derived_rows.specs.declared.derived.Members.{Members}
use Rattle.derived_rows.specs.declared.derived.Members.TheVariants.{One, OfRow}
use Rattle.derivations.specs.declared.derivation.Derivation.{Derivation}
use Rattle.derivations.specs.declared.derivation.Derivation.TheVariants.{Cut, Row}
use Rattle.sum_lines.specs.Head.{last_slot}
use Rattle.sum_lines.proofs.Feeds.{feed_unique}
use Rattle.derivation_lines.specs.declared.line.TailLine.{TailLine}
use Rattle.derivation_lines.specs.declared.line.TailLine.TheVariants as line
use Rattle.derivation_lines.specs.declared.tail.Counts.{Counts}
use Rattle.derivation_lines.specs.declared.tail.Part.{Part}
use Rattle.derivation_lines.specs.declared.tail.Part.TheVariants as part
use Rattle.derivation_lines.specs.Front.{IsFewer, IsFilling, MayBegin, MayFollow, last_row}
use Rattle.derivation_lines.specs.Line.{IsTailLine, tail_line_text}
use Rattle.derivation_lines.specs.Tail.{counts_of, derivation_lines, entry_line, factor_line, group_line, lines_of, lines_text, part_lines, row_line, row_lines}
use Rattle.derivation_lines.proofs.Lines.{text_fits, text_unique}
use Rattle.valid_log.proofs.Fronts.{ascending_tail}

-- ---- lists

-- first parts of one length are the same, and so is what follows
pub fronts-same : {X : Type 0} (xs ys a b : List X) → length xs ≡ length ys → xs ++ a ≡ ys ++ b → (xs ≡ ys) × (a ≡ b)
fronts-same [] [] a b long same = (refl, same)
fronts-same [] (y ∷ ys) a b long same = absurd (omega arith)
fronts-same (x ∷ xs) [] a b long same = absurd (omega arith)
fronts-same (x ∷ xs) (y ∷ ys) a b long same =
    let head : x ≡ y = ap (λ l. get_or l 0 x) same in
    let rest = fronts-same xs ys a b (omega arith) (ap (drop 1) same) in
    (ap₂ (λ z zs. z ∷ zs) head rest.0, rest.1)

-- what stands behind a shorter first part
pub record HasNext {X : Type 0} (xs ys a b : List X) : Type 0 where
  pub next : X
  pub later : List X
  pub are : ys ≡ xs ++ next ∷ later
  pub rest : b ≡ next ∷ (later ++ a)

pub next-of : {X : Type 0} (xs ys a b : List X) → length xs < length ys → ys ++ a ≡ xs ++ b → HasNext xs ys a b
next-of [] [] a b less same = absurd (omega arith)
next-of [] (y ∷ ys) a b less same = record { next = y; later = ys; are = refl; rest = sym same }
next-of (x ∷ xs) [] a b less same = absurd (omega arith)
next-of (x ∷ xs) (y ∷ ys) a b less same =
    let head : y ≡ x = ap (λ l. get_or l 0 y) same in
    let more = next-of xs ys a b (omega arith) (ap (drop 1) same) in
    record { next = more.next; later = more.later; are = ap₂ (λ z zs. z ∷ zs) head more.are; rest = more.rest }

-- a map that tells its items apart tells lists apart
pub map-same : {X Y : Type 0} (f : X → Y) → ((x y : X) → f x ≡ f y → x ≡ y) → (xs ys : List X) → map f xs ≡ map f ys → xs ≡ ys
map-same f one [] [] same = refl
map-same f one [] (y ∷ ys) same = absurd cc
map-same f one (x ∷ xs) [] same = absurd cc
map-same f one (x ∷ xs) (y ∷ ys) same = ap₂ (λ z zs. z ∷ zs) (one x y (ap (λ l. get_or l 0 (f x)) same)) (map-same f one xs ys (ap (drop 1) same))

-- the item behind a shorter first part of mapped items
pub record HasNextItem {X Y : Type 0} (f : X → Y) (xs ys : List X) (b : List Y) : Type 0 where
  pub item : X
  pub later : List X
  pub after : List Y
  pub are : ys ≡ xs ++ item ∷ later
  pub rest : b ≡ f item ∷ after

pub next-item : {X Y : Type 0} (f : X → Y) → ((x y : X) → f x ≡ f y → x ≡ y) → (xs ys : List X) (a b : List Y) → length xs < length ys → map f ys ++ a ≡ map f xs ++ b → HasNextItem f xs ys b
next-item f one [] [] a b less same = absurd (omega arith)
next-item f one [] (y ∷ ys) a b less same = record { item = y; later = ys; after = map f ys ++ a; are = refl; rest = sym same }
next-item f one (x ∷ xs) [] a b less same = absurd (omega arith)
next-item f one (x ∷ xs) (y ∷ ys) a b less same =
    let head : y ≡ x = one y x (ap (λ l. get_or l 0 (f y)) same) in
    let more = next-item f one xs ys a b (omega arith) (ap (drop 1) same) in
    record { item = more.item; later = more.later; after = more.after; are = ap₂ (λ z zs. z ∷ zs) head more.are; rest = more.rest }

-- ---- one text of lines

-- a line and what follows
pub line_front : (line : TailLine) (lines : List TailLine) (rest : List ℕ) → lines_text (line ∷ lines) ++ rest ≡ tail_line_text line ++ 10 ∷ (lines_text lines ++ rest)
unfolding lines_text
line_front line lines rest = append_assoc (tail_line_text line ++ 10 ∷ []) (lines_text lines) rest ∙ append_assoc (tail_line_text line) (10 ∷ []) (lines_text lines ++ rest)

pub no_lines : (rest : List ℕ) → lines_text [] ++ rest ≡ rest
unfolding lines_text
no_lines rest = refl

-- where two lines stand first they are the same, and so is what follows
pub one_line : (a b : TailLine) (x y : List ℕ) → IsTailLine a → IsTailLine b → tail_line_text a ++ 10 ∷ x ≡ tail_line_text b ++ 10 ∷ y → (a ≡ b) × (x ≡ y)
one_line a b x y is is2 same =
    let text = feed_unique (tail_line_text a) (tail_line_text b) x y (text_fits a is).0 (text_fits b is2).0 same in
    let t = tail_line_text b in
    let own : t ++ 10 ∷ x ≡ t ++ 10 ∷ y = sym (ap (λ w. w ++ 10 ∷ x) text) ∙ same in
    (text_unique a b is is2 text, ap (drop 1) (sym (drop-append_seam t (10 ∷ x)) ∙ ap (drop (length t)) own ∙ drop-append_seam t (10 ∷ y)))

-- later lines: those that stand behind others, and what is left before them
pub record HasMoreLines (xs ys : List TailLine) (x y : List ℕ) : Type 0 where
  pub more : List TailLine
  pub are : ys ≡ xs ++ more
  pub rest : x ≡ lines_text more ++ y

-- one line before others
pub one_before : (a b : TailLine) (xs ys : List TailLine) (x y : List ℕ) → a ≡ b → HasMoreLines xs ys x y → HasMoreLines (a ∷ xs) (b ∷ ys) x y
one_before a b xs ys x y one later = record { more = later.more; are = ap (λ w. b ∷ w) later.are ∙ ap (λ c. c ∷ (xs ++ later.more)) (sym one); rest = later.rest }

-- of two lists of lines with one text one is a first part of the other
pub lines_split : (xs ys : List TailLine) (x y : List ℕ) → All IsTailLine xs → All IsTailLine ys → lines_text xs ++ x ≡ lines_text ys ++ y → HasMoreLines xs ys x y ⊎ HasMoreLines ys xs y x
lines_split [] ys x y are are2 same = inl (record { more = ys; are = refl; rest = sym (no_lines x) ∙ same })
lines_split (a ∷ xs) [] x y are are2 same = inr (record { more = a ∷ xs; are = refl; rest = sym (no_lines y) ∙ sym same })
lines_split (a ∷ xs) (b ∷ ys) x y are are2 same =
    let first = one_line a b _ _ (All-head IsTailLine a xs are) (All-head IsTailLine b ys are2) (sym (line_front a xs x) ∙ same ∙ line_front b ys y) in
    elim (lines_split xs ys x y (All-tail IsTailLine a xs are) (All-tail IsTailLine b ys are2) first.1) [
      | inl later ↦ inl (one_before a b xs ys x y first.0 later)
      | inr later ↦ inr (one_before b a ys xs y x (sym first.0) later)
    ]

-- ---- derivations by their lines

pub factor_one : (a b : Factor) → factor_line a ≡ factor_line b → a ≡ b
factor_one a b same =
    let row : a.row ≡ b.row = cc in
    let by : a.by ≡ b.by = cc in
    λ i. record { row = row i; by = by i }

pub members_one : (m n : Members) (a b : ℤ) → group_line (record { members = m; shift = a }) ≡ group_line (record { members = n; shift = b }) → (m ≡ n) × (a ≡ b)
members_one (One slot) (One slot2) a b same = let s : slot ≡ slot2 = cc in (ap One s, cc)
members_one (One slot) (OfRow row) a b same = absurd cc
members_one (OfRow row) (One slot) a b same = absurd cc
members_one (OfRow row) (OfRow row2) a b same = let s : row ≡ row2 = cc in (ap OfRow s, cc)

pub group_one : (a b : Group) → group_line a ≡ group_line b → a ≡ b
group_one a b same = let e = members_one a.members b.members a.shift b.shift same in λ i. record { members = e.0 i; shift = e.1 i }

pub entry_one : (a b : Entry) → entry_line a ≡ entry_line b → a ≡ b
entry_one a b same =
    let slot : a.slot ≡ b.slot = cc in
    let fixed : a.fixed ≡ b.fixed = cc in
    let per : a.per ≡ b.per = cc in
    λ i. record { slot = slot i; fixed = fixed i; per = per i }

-- row lines that are the same have the same numbers
pub record AreHeads (a b : Derived) (m n : Counts) : Type 0 where
  pub divisor : a.divisor ≡ b.divisor
  pub rest : a.rest ≡ b.rest
  pub up : a.up ≡ b.up
  pub down : a.down ≡ b.down
  pub factors : m.factors ≡ n.factors
  pub groups : m.groups ≡ n.groups
  pub entries : m.entries ≡ n.entries

pub heads_of : (a b : Derived) (m n : Counts) → row_line a m ≡ row_line b n → AreHeads a b m n
heads_of a b m n same = record { divisor = cc; rest = cc; up = cc; down = cc; factors = cc; groups = cc; entries = cc }

-- rows with the same first line and the same lines of parts are the same, and so is what follows
pub rows_one : (a b : Derived) (x y : List TailLine) → row_line a (counts_of a) ≡ row_line b (counts_of b) → part_lines a ++ x ≡ part_lines b ++ y → (a ≡ b) × (x ≡ y)
rows_one a b x y first parts =
    let is = heads_of a b (counts_of a) (counts_of b) first in
    let fa = map factor_line a.factors in
    let fb = map factor_line b.factors in
    let ga = map group_line a.groups in
    let gb = map group_line b.groups in
    let ea = map entry_line a.entries in
    let eb = map entry_line b.entries in
    let opened = sym (append_assoc fa (ga ++ ea) x) ∙ parts ∙ append_assoc fb (gb ++ eb) y in
    let f = fronts-same fa fb ((ga ++ ea) ++ x) ((gb ++ eb) ++ y) (omega (arith, length-map a.factors factor_line, length-map b.factors factor_line, is.factors)) opened in
    let g = fronts-same ga gb (ea ++ x) (eb ++ y) (omega (arith, length-map a.groups group_line, length-map b.groups group_line, is.groups)) (sym (append_assoc ga ea x) ∙ f.1 ∙ append_assoc gb eb y) in
    let e = fronts-same ea eb x y (omega (arith, length-map a.entries entry_line, length-map b.entries entry_line, is.entries)) g.1 in
    let factors = map-same factor_line factor_one a.factors b.factors f.0 in
    let groups = map-same group_line group_one a.groups b.groups g.0 in
    let entries = map-same entry_line entry_one a.entries b.entries e.0 in
    (λ i. record { divisor = is.divisor i; rest = is.rest i; up = is.up i; down = is.down i; factors = factors i; groups = groups i; entries = entries i }, e.1)

-- derivations whose lines stand first are the same, and so is what follows
pub derivation_one : (d e : Derivation) (x y : List TailLine) → derivation_lines d ++ x ≡ derivation_lines e ++ y → (d ≡ e) × (x ≡ y)
derivation_one (Cut cut) (Cut cut2) x y same =
    let first : line.Cut cut.row cut.slot ≡ line.Cut cut2.row cut2.slot = ap (λ l. get_or l 0 (line.Cut cut.row cut.slot)) same in
    let row : cut.row ≡ cut2.row = cc first in
    let slot : cut.slot ≡ cut2.slot = cc first in
    let one : cut ≡ cut2 = λ i. record { row = row i; slot = slot i } in
    (ap Cut one, ap (drop 1) same)
derivation_one (Cut cut) (Row derived) x y same =
    let first : line.Cut cut.row cut.slot ≡ row_line derived (counts_of derived) = ap (λ l. get_or l 0 (line.Cut cut.row cut.slot)) same in
    absurd cc
derivation_one (Row derived) (Cut cut) x y same =
    let first : row_line derived (counts_of derived) ≡ line.Cut cut.row cut.slot = ap (λ l. get_or l 0 (line.Cut cut.row cut.slot)) same in
    absurd cc
derivation_one (Row a) (Row b) x y same =
    let first : row_line a (counts_of a) ≡ row_line b (counts_of b) = ap (λ l. get_or l 0 (row_line a (counts_of a))) same in
    let is = rows_one a b x y first (ap (drop 1) same) in
    (ap Row is.0, is.1)

-- later derivations: those that stand behind others, and their lines
pub record HasMore (xs ys : List Derivation) (more : List TailLine) : Type 0 where
  pub later : List Derivation
  pub are : ys ≡ xs ++ later
  pub lines : more ≡ lines_of later

-- whole derivations that are a first part of the lines of others are a first part of those
pub decode : (xs ys : List Derivation) (more : List TailLine) → lines_of ys ≡ lines_of xs ++ more → HasMore xs ys more
decode [] ys more same = record { later = ys; are = refl; lines = sym same }
decode (x ∷ xs) [] more same = absurd (no_first x (sym (append_assoc (derivation_lines x) (lines_of xs) more) ∙ sym same))
  where
    no_first : (d : Derivation) → derivation_lines d ++ (lines_of xs ++ more) ≡ [] → ⊥
    no_first (Cut cut) e = cc
    no_first (Row derived) e = cc
decode (x ∷ xs) (y ∷ ys) more same =
    let one = derivation_one y x (lines_of ys) (lines_of xs ++ more) (same ∙ append_assoc (derivation_lines x) (lines_of xs) more) in
    let rest = decode xs ys more one.1 in
    record { later = rest.later; are = ap₂ (λ z zs. z ∷ zs) one.0 rest.are; lines = rest.lines }

-- a line that may begin a derivation may be written
pub begin_written : (slots : ℕ) (l : TailLine) → MayBegin slots l → IsTailLine l
begin_written slots (line.Cut row slot) may = may
begin_written slots (line.Row divisor rest up down factors groups entries) may = may.0
begin_written slots (line.By row by) may = absurd may
begin_written slots (line.Shift row shift) may = absurd may
begin_written slots (line.Lift slot shift) may = absurd may
begin_written slots (line.Entry slot fixed per) may = absurd may

-- so may one that may follow
pub follow_written : (a : Derived) (next : Part) (l : TailLine) → MayFollow a next l → IsTailLine l
follow_written a part.Factor (line.By row by) may = may.0
follow_written a part.Group (line.Shift row shift) may = may
follow_written a part.Group (line.Lift slot shift) may = may
follow_written a part.Entry (line.Entry slot fixed per) may = may.0
follow_written a part.Factor (line.Cut row slot) may = absurd may
follow_written a part.Factor (line.Row divisor rest up down factors groups entries) may = absurd may
follow_written a part.Factor (line.Shift row shift) may = absurd may
follow_written a part.Factor (line.Lift slot shift) may = absurd may
follow_written a part.Factor (line.Entry slot fixed per) may = absurd may
follow_written a part.Group (line.Cut row slot) may = absurd may
follow_written a part.Group (line.Row divisor rest up down factors groups entries) may = absurd may
follow_written a part.Group (line.By row by) may = absurd may
follow_written a part.Group (line.Entry slot fixed per) may = absurd may
follow_written a part.Entry (line.Cut row slot) may = absurd may
follow_written a part.Entry (line.Row divisor rest up down factors groups entries) may = absurd may
follow_written a part.Entry (line.By row by) may = absurd may
follow_written a part.Entry (line.Shift row shift) may = absurd may
follow_written a part.Entry (line.Lift slot shift) may = absurd may

-- ---- open rows

pub part_count : (d : Derived) → length (part_lines d) ≡ length d.factors + (length d.groups + length d.entries)
part_count d =
    omega (arith, length-append (map factor_line d.factors) (map group_line d.groups ++ map entry_line d.entries), length-append (map group_line d.groups) (map entry_line d.entries), length-map d.factors factor_line, length-map d.groups group_line, length-map d.entries entry_line)

-- fewer parts of some kind are fewer in all
pub fewer_parts : (a : Derived) (m : Counts) → IsFilling a m → IsFewer a m → length a.factors + (length a.groups + length a.entries) < m.factors + (m.groups + m.entries)
fewer_parts a m filling (inl less) = omega (arith, less, filling.few_groups, filling.few_entries)
fewer_parts a m filling (inr (inl less)) = omega (arith, less, filling.few_factors, filling.few_entries)
fewer_parts a m filling (inr (inr less)) = omega (arith, less, filling.few_factors, filling.few_groups)

-- the lines of an open row do not begin with those of a whole one
pub not_whole : (a b : Derived) (m : Counts) (x : List TailLine) → IsFilling a m → IsFewer a m → row_lines a m ≡ row_lines b (counts_of b) ++ x → ⊥
not_whole a b m x filling fewer same =
    let is = heads_of a b m (counts_of b) (ap (λ l. get_or l 0 (row_line a m)) same) in
    let parts = ap length (ap (drop 1) same) in
    omega (arith, parts, length-append (part_lines b) x, part_count a, part_count b, fewer_parts a m filling fewer, is.factors, is.groups, is.entries)

-- derivations, then the lines of an open row
pub record HasMoreOpen (xs ys : List Derivation) (row more : List TailLine) : Type 0 where
  pub later : List Derivation
  pub are : ys ≡ xs ++ later
  pub lines : more ≡ lines_of later ++ row

-- whole derivations that stand first in the lines of others and of an open row are a first part of those
pub decode_open : (xs ys : List Derivation) (a : Derived) (m : Counts) (more : List TailLine) → IsFilling a m → IsFewer a m → lines_of ys ++ row_lines a m ≡ lines_of xs ++ more → HasMoreOpen xs ys (row_lines a m) more
decode_open [] ys a m more filling fewer same = record { later = ys; are = refl; lines = sym same }
decode_open (x ∷ xs) [] a m more filling fewer same = absurd (no_row x (same ∙ append_assoc (derivation_lines x) (lines_of xs) more))
  where
    no_row : (d : Derivation) → row_lines a m ≡ derivation_lines d ++ (lines_of xs ++ more) → ⊥
    no_row (Cut cut) e = let first : row_line a m ≡ line.Cut cut.row cut.slot = ap (λ l. get_or l 0 (row_line a m)) e in cc
    no_row (Row b) e = not_whole a b m (lines_of xs ++ more) filling fewer e
decode_open (x ∷ xs) (y ∷ ys) a m more filling fewer same =
    let row = row_lines a m in
    let one = derivation_one y x (lines_of ys ++ row) (lines_of xs ++ more) (sym (append_assoc (derivation_lines y) (lines_of ys) row) ∙ same ∙ append_assoc (derivation_lines x) (lines_of xs) more) in
    let rest = decode_open xs ys a m more filling fewer one.1 in
    record { later = rest.later; are = ap₂ (λ z zs. z ∷ zs) one.0 rest.are; lines = rest.lines }

-- ---- numbers that ascend

-- the last number, and the one before where there is none
abbrev pub last_number : Option ℕ → List ℕ → Option ℕ
last_number above [] = above
last_number above (n ∷ ns) = last_number (Some n) ns

pub slots_last : (above : Option ℕ) (es : List Entry) → last_slot above es ≡ last_number above (map (λ (e : Entry). e.slot) es)
slots_last above [] = refl
slots_last above (e ∷ es) = slots_last (Some e.slot) es

pub rows_last : (above : Option ℕ) (fs : List Factor) → last_row above fs ≡ last_number above (map (λ (f : Factor). f.row) fs)
rows_last above [] = refl
rows_last above (f ∷ fs) = rows_last (Some f.row) fs

pub next_above : (a first : ℕ) (ns : List ℕ) → IsStrictlyIncreasing (a ∷ first ∷ ns) → follows (Some a) first ≡ true
next_above a first ns up = let less : a < first = up 0 (omega arith) in grind (arith, nat_tests)

-- a number follows those before it
pub follows_number : (above : Option ℕ) (ns : List ℕ) (n : ℕ) (later : List ℕ) → IsStrictlyIncreasing (ns ++ n ∷ later) → ((first : ℕ) (rest : List ℕ) → ns ++ n ∷ later ≡ first ∷ rest → follows above first ≡ true)
    → follows (last_number above ns) n ≡ true
follows_number above [] n later up begins = begins n later refl
follows_number above (a ∷ ns) n later up begins =
    follows_number (Some a) ns n later (ascending_tail a (ns ++ n ∷ later) up) (λ first rest is. next_above a first rest (subst (λ (l : List ℕ). IsStrictlyIncreasing (a ∷ l)) is up))
