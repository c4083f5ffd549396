-- What entries sum to and what is left for rows where a slot of the point gets another value.
use Rattle.std.proofs.Common.{◌≡◌, ℕ, suc, ◌+◌, ◌<◌, cond, eqb, List, [], ◌∷◌, length, set, get_or, drop, drop-cons, refl, ap, sym, ◌∙◌, ⊎_elim, arith, ℤ, pos, ◌+ℤ◌, ◌-ℤ◌}
use Rattle.std.proofs.lemmas.Bool.{cases_eq, cond-true, cond-false, eq-eqb, ne_eqb}
use Rattle.std.proofs.lemmas.Int.{ints}
use Rattle.std.proofs.lemmas.List.{get_or-set_same, get_or-set_other}
use Rattle.row_kit.specs.declared.row.Entry.{Entry}
use Rattle.row_kit.specs.Row.{counted, entry_at, entries_sum}
use Rattle.row_rooms.specs.declared.rooms.Cell.{Cell}
use Rattle.row_rooms.specs.Rooms.{cell_counted, cells_at, room_at}

-- entries sum at a point with a slot set to a value to what they sum to at the point, less what those of the slot count at its old value, and what they count at the new one
pub sum_turned : (es : List Entry) (point : List ℕ) (slot value : ℕ) → slot < length point
    → entries_sum es (set point slot value) ≡ entries_sum es point -ℤ entry_at es slot (get_or point slot 0) +ℤ entry_at es slot value
sum_turned [] point slot value lt = refl
sum_turned (e ∷ es) point slot value lt =
    let rest = sum_turned es point slot value lt in
    let old = get_or point slot 0 in
    ⊎_elim
    (λ (same : e.slot ≡ slot).
    let is : get_or (set point slot value) e.slot 0 ≡ value = ap (λ (k : ℕ). get_or (set point slot value) k 0) same ∙ get_or-set_same point slot value 0 lt in
    let was : get_or point e.slot 0 ≡ old = ap (λ (k : ℕ). get_or point k 0) same in
    let test = eq-eqb e.slot slot same in
    step (counted e (get_or (set point slot value) e.slot 0)) (counted e (get_or point e.slot 0))
    (cond (eqb e.slot slot) (counted e old) (pos 0)) (cond (eqb e.slot slot) (counted e value) (pos 0))
    (entries_sum es (set point slot value)) (entries_sum es point) (entry_at es slot old) (entry_at es slot value)
    (same_part (counted e (get_or (set point slot value) e.slot 0)) (counted e (get_or point e.slot 0)) (counted e old) (counted e value)
    (cond (eqb e.slot slot) (counted e old) (pos 0)) (cond (eqb e.slot slot) (counted e value) (pos 0))
    (ap (counted e) is) (ap (counted e) was)
    (cond-true (eqb e.slot slot) (counted e old) (pos 0) test) (cond-true (eqb e.slot slot) (counted e value) (pos 0) test))
    rest)
    (λ (other : e.slot ≡ slot → ⊥).
    let is : get_or (set point slot value) e.slot 0 ≡ get_or point e.slot 0 = get_or-set_other point slot e.slot value 0 other in
    let test = ne_eqb e.slot slot other in
    step (counted e (get_or (set point slot value) e.slot 0)) (counted e (get_or point e.slot 0))
    (cond (eqb e.slot slot) (counted e old) (pos 0)) (cond (eqb e.slot slot) (counted e value) (pos 0))
    (entries_sum es (set point slot value)) (entries_sum es point) (entry_at es slot old) (entry_at es slot value)
    (other_part (counted e (get_or (set point slot value) e.slot 0)) (counted e (get_or point e.slot 0))
    (cond (eqb e.slot slot) (counted e old) (pos 0)) (cond (eqb e.slot slot) (counted e value) (pos 0))
    (ap (counted e) is)
    (cond-false (eqb e.slot slot) (counted e old) (pos 0) test) (cond-false (eqb e.slot slot) (counted e value) (pos 0) test))
    rest)
    (cases_eq e.slot slot)
  where
    same_part : (is was old new off on : ℤ) → is ≡ new → was ≡ old → off ≡ old → on ≡ new → is ≡ was -ℤ off +ℤ on
    same_part is was old new off on a b c d = omega (arith, ints)

    other_part : (is was off on : ℤ) → is ≡ was → off ≡ pos 0 → on ≡ pos 0 → is ≡ was -ℤ off +ℤ on
    other_part is was off on a b c = omega (arith, ints)

    step : (is was off on sum before less more : ℤ) → is ≡ was -ℤ off +ℤ on → sum ≡ before -ℤ less +ℤ more → is +ℤ sum ≡ (was +ℤ before) -ℤ (off +ℤ less) +ℤ (on +ℤ more)
    step is was off on sum before less more a b = omega (arith, ints)

-- a cell for a place where there is none
abbrev pub no_cell : Cell
no_cell = record { row = 0; fixed = pos 0; per = pos 0 }

-- one cell's row gets what the cell counted and gives what it counts now, and the cells that are left do the rest
one_cell : (cell : Cell) (rest : List Cell) (rooms : List ℤ) (row former value : ℕ) → cell.row < length rooms
    → room_at (set rooms cell.row (room_at rooms cell.row +ℤ cell_counted cell former -ℤ cell_counted cell value)) row +ℤ cells_at rest row former -ℤ cells_at rest row value
    ≡ room_at rooms row +ℤ cells_at (cell ∷ rest) row former -ℤ cells_at (cell ∷ rest) row value
one_cell cell rest rooms row former value lt =
    let later = room_at rooms cell.row +ℤ cell_counted cell former -ℤ cell_counted cell value in
    ⊎_elim
    (λ (same : cell.row ≡ row).
    let is : room_at (set rooms cell.row later) row ≡ later = ap (room_at (set rooms cell.row later)) (sym same) ∙ get_or-set_same rooms cell.row later (pos 0) lt in
    let test = eq-eqb cell.row row same in
    same_room (room_at (set rooms cell.row later) row) (room_at rooms cell.row) (room_at rooms row) (cell_counted cell former) (cell_counted cell value)
    (cond (eqb cell.row row) (cell_counted cell former) (pos 0)) (cond (eqb cell.row row) (cell_counted cell value) (pos 0)) (cells_at rest row former) (cells_at rest row value)
    is (ap (room_at rooms) same)
    (cond-true (eqb cell.row row) (cell_counted cell former) (pos 0) test) (cond-true (eqb cell.row row) (cell_counted cell value) (pos 0) test))
    (λ (other : cell.row ≡ row → ⊥).
    let is : room_at (set rooms cell.row later) row ≡ room_at rooms row = get_or-set_other rooms cell.row row later (pos 0) (λ e. other (sym e)) in
    let test = ne_eqb cell.row row other in
    other_room (room_at (set rooms cell.row later) row) (room_at rooms row)
    (cond (eqb cell.row row) (cell_counted cell former) (pos 0)) (cond (eqb cell.row row) (cell_counted cell value) (pos 0)) (cells_at rest row former) (cells_at rest row value)
    is
    (cond-false (eqb cell.row row) (cell_counted cell former) (pos 0) test) (cond-false (eqb cell.row row) (cell_counted cell value) (pos 0) test))
    (cases_eq cell.row row)
  where
    same_room : (is at room old new off on less more : ℤ) → is ≡ at +ℤ old -ℤ new → at ≡ room → off ≡ old → on ≡ new → is +ℤ less -ℤ more ≡ room +ℤ (off +ℤ less) -ℤ (on +ℤ more)
    same_room is at room old new off on less more a b c d = omega (arith, ints)

    other_room : (is room off on less more : ℤ) → is ≡ room → off ≡ pos 0 → on ≡ pos 0 → is +ℤ less -ℤ more ≡ room +ℤ (off +ℤ less) -ℤ (on +ℤ more)
    other_room is room off on less more a b c = omega (arith, ints)

-- so a loop over cells may do it one by one
pub cells_more : (cells : List Cell) (i : ℕ) (rooms : List ℤ) (row former value : ℕ) → i < length cells → (get_or cells i no_cell).row < length rooms
    → room_at (set rooms (get_or cells i no_cell).row (room_at rooms (get_or cells i no_cell).row +ℤ cell_counted (get_or cells i no_cell) former -ℤ cell_counted (get_or cells i no_cell) value)) row +ℤ cells_at (drop (i + 1) cells) row former -ℤ cells_at (drop (i + 1) cells) row value
    ≡ room_at rooms row +ℤ cells_at (drop i cells) row former -ℤ cells_at (drop i cells) row value
cells_more cells i rooms row former value lt named =
    let cell = get_or cells i no_cell in
    let later = room_at rooms cell.row +ℤ cell_counted cell former -ℤ cell_counted cell value in
    let next : i + 1 ≡ suc i = omega arith in
    let whole : drop i cells ≡ cell ∷ drop (suc i) cells = drop-cons cells i no_cell lt in
    ap (λ (k : ℕ). room_at (set rooms cell.row later) row +ℤ cells_at (drop k cells) row former -ℤ cells_at (drop k cells) row value) next
    ∙ one_cell cell (drop (suc i) cells) rooms row former value named
    ∙ ap (λ (cs : List Cell). room_at rooms row +ℤ cells_at cs row former -ℤ cells_at cs row value) (sym whole)
