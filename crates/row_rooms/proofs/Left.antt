-- What is left for the rows of a program at a point, and how many are broken.
use Rattle.std.proofs.Common.{◌≡◌, ℕ, suc, ◌+◌, ◌-◌, ◌*◌, ◌<◌, ◌≤◌, ◌^◌, Bool, true, false, cond, eqb, List, [], ◌∷◌, length, map, set, get_or, replicate, refl, ap, sym, subst, ◌∙◌, ⊎_elim, arith, ℤ, pos, ◌+ℤ◌, ◌-ℤ◌, ◌*ℤ◌, ◌≤ℤ◌, unsigned_abs}
use Rattle.std.specs.Prelude.{int_lt}
use Rattle.std.specs.List.{All, sum_by}
use Rattle.std.proofs.Math.IntN.{+ℤ_idl}
use Rattle.std.proofs.Math.Nat.{mul-le-mul}
use Rattle.std.proofs.lemmas.Bool.{cases_lt}
use Rattle.std.proofs.lemmas.Int.{ints, unsigned_abs-mul}
use Rattle.std.proofs.lemmas.List.{get_or-map, get_or-replicate, get_or_default, get_or_past, length-map, length-replicate, length-set}
use Rattle.std.proofs.lemmas.List.Elements.{All-head, All-tail, All-set}
use Rattle.std.proofs.lemmas.List.Sums.{sum_by-set, sum_by-le}
use Rattle.row_kit.specs.declared.row.Entry.{Entry}
use Rattle.row_kit.specs.declared.row.Row.{Row}
use Rattle.row_kit.specs.declared.program.Program.{Program}
use Rattle.row_kit.specs.Row.{counted, entry_at, entries_sum, row_at, no_row, IsKept}
use Rattle.row_kit.proofs.Ascending.{few_entries}
use Rattle.row_rooms.specs.declared.rooms.Cell.{Cell}
use Rattle.row_rooms.specs.declared.rooms.RowRooms.{RowRooms}
use Rattle.row_rooms.specs.Rooms.{cells_at, column_at, broken_by, room_at, AreColumns, IsTurned, IsRoomsOf}
use Rattle.row_rooms.proofs.Turning.{sum_turned}

-- an entry of a row counts little at a byte
counted_small : (e : Entry) (value : ℕ) → unsigned_abs e.fixed ≤ 10000000 → unsigned_abs e.per ≤ 10000000 → value < 256 → unsigned_abs (counted e value) ≤ 2 ^ 32
counted_small e value fixed per byte = by_test (eqb value 0)
  where
    part : unsigned_abs (e.per *ℤ pos value) ≤ 10000000 * 256
    part =
        let times : unsigned_abs e.per * value ≤ 10000000 * 256 = mul-le-mul {n₁ = unsigned_abs e.per} {m₁ = value} {n₂ = 10000000} {m₂ = 256} per (omega arith) in
        omega (arith, times, unsigned_abs-mul e.per (pos value))

    by_test : (t : Bool) → unsigned_abs (cond t (pos 0) (e.fixed +ℤ (e.per *ℤ pos value))) ≤ 2 ^ 32
    by_test true = omega arith
    by_test false = let some = part in omega (arith, ints, some, fixed)

-- so the entries of a row sum to little at bytes
sum_small : (es : List Entry) (point : List ℕ) → All (λ (e : Entry). unsigned_abs e.fixed ≤ 10000000) es → All (λ (e : Entry). unsigned_abs e.per ≤ 10000000) es → All (λ value. value < 256) point → unsigned_abs (entries_sum es point) ≤ 2 ^ 32 * length es
sum_small [] point fixed per bytes = omega arith
sum_small (e ∷ es) point fixed per bytes =
    let one = counted_small e (get_or point e.slot 0) (All-head (λ (e : Entry). unsigned_abs e.fixed ≤ 10000000) e es fixed) (All-head (λ (e : Entry). unsigned_abs e.per ≤ 10000000) e es per) (byte_at point e.slot bytes) in
    let more = sum_small es point (All-tail (λ (e : Entry). unsigned_abs e.fixed ≤ 10000000) e es fixed) (All-tail (λ (e : Entry). unsigned_abs e.per ≤ 10000000) e es per) bytes in
    both (counted e (get_or point e.slot 0)) (entries_sum es point) (length es) one more
  where
    byte_at : (point : List ℕ) (slot : ℕ) → All (λ value. value < 256) point → get_or point slot 0 < 256
    byte_at point slot bytes = ⊎_elim (λ (within : slot < length point). bytes slot 0 within) (λ (past : length point ≤ slot). omega (arith, get_or_past point slot 0 past)) (cases_lt slot (length point))

    both : (a b : ℤ) (n : ℕ) → unsigned_abs a ≤ 2 ^ 32 → unsigned_abs b ≤ 2 ^ 32 * n → unsigned_abs (a +ℤ b) ≤ 2 ^ 32 * suc n
    both a b n one more = omega (arith, ints, one, more)

-- and little is left for each row
pub small_rooms : (program : Program) (held : RowRooms) → IsRoomsOf program held → All (λ room. unsigned_abs room ≤ 2 ^ 64) held.rooms.items
small_rooms program held is row d lt =
    let within : row < length program.rows = omega (arith, is.one_room) in
    let bounded = program.rows_bounded row no_row within in
    let es = (row_at program.rows row).entries in
    let few = few_entries (length program.root) 10000000 es bounded.entries in
    let sum = sum_small es held.point.items bounded.entries.fixed_small bounded.entries.per_small is.bytes in
    let room = get_or_default held.rooms.items row d (pos 0) lt ∙ is.left row within in
    subst (λ (z : ℤ). unsigned_abs z ≤ 2 ^ 64) (sym room)
    (less (row_at program.rows row).limit (entries_sum es held.point.items) (length es) (length program.root) bounded.limit sum few program.few_slots)
  where
    less : (a b : ℤ) (n m : ℕ) → unsigned_abs a ≤ 1000000000000 → unsigned_abs b ≤ 2 ^ 32 * n → n ≤ m → m ≤ 4096 → unsigned_abs (a -ℤ b) ≤ 2 ^ 64
    less a b n m limit sum few slots = omega (arith, ints, limit, sum, few, slots)

-- the rows that a column names are rows
pub column_named : (program : Program) (held : RowRooms) → IsRoomsOf program held → (slot : ℕ) → slot < length program.root → All (λ (cell : Cell). cell.row < length held.rooms.items) (column_at held.columns.items slot)
column_named program held is slot lt k d within =
    omega (arith, is.one_room, (is.columns slot (omega (arith, is.one_column))).named k d within)

-- where a slot is turned, what is left is right again
pub still_rooms : (program : Program) (held later : RowRooms) (slot value : ℕ) → IsRoomsOf program held → slot < length program.root → value < 256
    → later.columns ≡ held.columns → later.point.items ≡ set held.point.items slot value
    → IsTurned (column_at held.columns.items slot) (get_or held.point.items slot 0) value held.rooms.items later.rooms.items
    → later.broken ≡ sum_by broken_by later.rooms.items → IsRoomsOf program later
still_rooms program held later slot value is lt byte columns point turned broken = record {
  one_column = rw columns is.one_column;
  columns = rw columns is.columns;
  one_value = ap length point ∙ (length-set held.point.items slot value ∙ is.one_value);
  bytes = subst (All (λ value. value < 256)) (sym point) (All-set (λ value. value < 256) held.point.items slot value byte is.bytes);
  one_room = turned.as_many ∙ is.one_room;
  left = λ row within.
      let es = (row_at program.rows row).entries in
      let cells = column_at held.columns.items slot in
      let old = get_or held.point.items slot 0 in
      let column = is.columns slot (omega (arith, is.one_column)) in
      moved (room_at later.rooms.items row) (room_at held.rooms.items row) (row_at program.rows row).limit (entries_sum es held.point.items) (entries_sum es later.point.items)
      (cells_at cells row old) (cells_at cells row value) (entry_at es slot old) (entry_at es slot value)
      (turned.left row (omega (arith, is.one_room))) (is.left row within)
      (ap (entries_sum es) point ∙ sum_turned es held.point.items slot value (omega (arith, is.one_value)))
      (column.counts row old) (column.counts row value);
  broken = broken;
}
  where
    moved : (later room limit sum new off on less more : ℤ) → later ≡ room +ℤ off -ℤ on → room ≡ limit -ℤ sum → new ≡ sum -ℤ less +ℤ more → off ≡ less → on ≡ more → later ≡ limit -ℤ new
    moved later room limit sum new off on less more a b c d e = omega (arith, ints)

-- a number is 0
abbrev Is0 : ℕ → Type 0
Is0 n = n ≡ 0

-- where no row is broken, nothing less than 0 is left for any
none_less : (rooms : List ℤ) → sum_by broken_by rooms ≡ 0 → (row : ℕ) → row < length rooms → pos 0 ≤ℤ room_at rooms row
none_less rooms none row lt =
    let swapped = sum_by-set broken_by rooms row (pos 0) (pos 0) lt in
    whole (room_at rooms row) (omega (arith, swapped, none))
  where
    whole : (room : ℤ) → broken_by room ≡ 0 → pos 0 ≤ℤ room
    whole room none = by_test (int_lt room (pos 0)) refl none
      where
        by_test : (t : Bool) → int_lt room (pos 0) ≡ t → Is0 (cond t 1 0) → pos 0 ≤ℤ room
        by_test true e h = absurd (omega (arith, h))
        by_test false e h = grind (arith, ints)

-- and the other way round
none_broken : (rooms : List ℤ) → ((row : ℕ) → row < length rooms → pos 0 ≤ℤ room_at rooms row) → sum_by broken_by rooms ≡ 0
none_broken rooms whole =
    let none : All (λ (room : ℤ). broken_by room ≤ 0) rooms = λ row d lt. no_less (get_or rooms row d) (subst (λ (z : ℤ). pos 0 ≤ℤ z) (get_or_default rooms row (pos 0) d lt) (whole row lt)) in
    omega (arith, sum_by-le broken_by 0 rooms none)
  where
    no_less : (room : ℤ) → pos 0 ≤ℤ room → broken_by room ≤ 0
    no_less room some = by_test (int_lt room (pos 0)) refl
      where
        by_test : (t : Bool) → int_lt room (pos 0) ≡ t → cond t 1 0 ≤ 0
        by_test true e = absurd (grind (arith, ints))
        by_test false e = omega arith

-- no more rows are broken than there are
pub few_broken : (rooms : List ℤ) → sum_by broken_by rooms ≤ length rooms
few_broken rooms =
    let ones : All (λ (room : ℤ). broken_by room ≤ 1) rooms = λ row d lt. at_most_one (int_lt (get_or rooms row d) (pos 0)) in
    omega (arith, sum_by-le broken_by 1 rooms ones)
  where
    at_most_one : (t : Bool) → cond t 1 0 ≤ 1
    at_most_one true = omega arith
    at_most_one false = omega arith

-- how many rows are broken once a room is another
pub one_broken : (rooms : List ℤ) (row broken was is : ℕ) (left : ℤ) → row < length rooms → broken ≡ sum_by broken_by rooms → was ≡ broken_by (room_at rooms row) → is ≡ broken_by left → broken - was + is ≡ sum_by broken_by (set rooms row left)
one_broken rooms row broken was is left lt a b c =
    let swapped = sum_by-set broken_by rooms row left (pos 0) lt in
    let less = sum_by-set broken_by rooms row (pos 0) (pos 0) lt in
    counts (sum_by broken_by rooms) (sum_by broken_by (set rooms row left)) (sum_by broken_by (set rooms row (pos 0))) (broken_by (room_at rooms row)) (broken_by left) broken was is swapped less a b c
  where
    counts : (sum later without old new broken was is : ℕ) → later + old ≡ sum + new → without + old ≡ sum + 0 → broken ≡ sum → was ≡ old → is ≡ new → broken - was + is ≡ later
    counts sum later without old new broken was is e l a b c = omega arith

-- so the point keeps every row exactly where none is broken
pub all_kept : (program : Program) (held : RowRooms) → IsRoomsOf program held → held.broken ≡ 0 → All (IsKept held.point.items) program.rows
all_kept program held is none row d lt =
    let whole = none_less held.rooms.items (sym is.broken ∙ none) row (omega (arith, is.one_room)) in
    let left = is.left row lt in
    subst (IsKept held.point.items) (get_or_default program.rows row no_row d lt)
    (kept (room_at held.rooms.items row) (row_at program.rows row).limit (entries_sum (row_at program.rows row).entries held.point.items) left whole)
  where
    kept : (room limit sum : ℤ) → room ≡ limit -ℤ sum → pos 0 ≤ℤ room → sum ≤ℤ limit
    kept room limit sum e whole = omega (arith, ints)

-- and the other way round
pub kept_none : (program : Program) (held : RowRooms) → IsRoomsOf program held → All (IsKept held.point.items) program.rows → held.broken ≡ 0
kept_none program held is keeps =
    is.broken ∙ none_broken held.rooms.items (λ row lt.
    let within : row < length program.rows = omega (arith, is.one_room) in
    whole (room_at held.rooms.items row) (row_at program.rows row).limit (entries_sum (row_at program.rows row).entries held.point.items) (is.left row within) (keeps row no_row within))
  where
    whole : (room limit sum : ℤ) → room ≡ limit -ℤ sum → sum ≤ℤ limit → pos 0 ≤ℤ room
    whole room limit sum e kept = omega (arith, ints)

-- so many zeros
abbrev pub zeros : ℕ → List ℕ
zeros n = replicate n 0

-- they are so many
zeros_length : (n : ℕ) → length (zeros n) ≡ n
zeros_length n = let none : ℕ = 0 in length-replicate n none

-- where no slot is started, entries sum to 0
unstarted : (es : List Entry) (n : ℕ) → entries_sum es (zeros n) ≡ pos 0
unstarted [] n = refl
unstarted (e ∷ es) n =
    ap (λ (v : ℕ). counted e v +ℤ entries_sum es (zeros n)) (nothing n e.slot)
    ∙ +ℤ_idl (entries_sum es (zeros n))
    ∙ unstarted es n
  where
    nothing : (n slot : ℕ) → get_or (zeros n) slot 0 ≡ 0
    nothing n slot = ⊎_elim (λ (within : slot < n). get_or-replicate n slot 0 0 within) (λ (past : n ≤ slot). get_or_past (zeros n) slot 0 (omega (arith, zeros_length n))) (cases_lt slot n)

-- so the limits are left there
pub begun_rooms : (program : Program) (held : RowRooms) → length held.columns.items ≡ length program.root → AreColumns program.rows held.columns.items
    → held.point.items ≡ zeros (length program.root) → held.rooms.items ≡ map (λ (row : Row). row.limit) program.rows
    → held.broken ≡ sum_by broken_by held.rooms.items → IsRoomsOf program held
begun_rooms program held one columns point rooms broken = record {
  one_column = one;
  columns = columns;
  one_value = ap length point ∙ zeros_length (length program.root);
  bytes = subst (All (λ value. value < 256)) (sym point) (λ k d lt. omega (arith, get_or-replicate (length program.root) k 0 d (omega (arith, zeros_length (length program.root)))));
  one_room = ap length rooms ∙ length-map program.rows (λ (row : Row). row.limit);
  left = λ row lt.
      let is : room_at held.rooms.items row ≡ (row_at program.rows row).limit = ap (λ (zs : List ℤ). room_at zs row) rooms ∙ get_or-map (λ (row : Row). row.limit) program.rows row no_row (pos 0) lt in
      let none : entries_sum (row_at program.rows row).entries held.point.items ≡ pos 0 = ap (entries_sum (row_at program.rows row).entries) point ∙ unstarted (row_at program.rows row).entries (length program.root) in
      whole (room_at held.rooms.items row) (row_at program.rows row).limit (entries_sum (row_at program.rows row).entries held.point.items) is none;
  broken = broken;
}
  where
    whole : (room limit sum : ℤ) → room ≡ limit → sum ≡ pos 0 → room ≡ limit -ℤ sum
    whole room limit sum a b = omega (arith, ints)
