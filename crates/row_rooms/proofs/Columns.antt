-- The cells of rows in the columns of their slots, one entry and one row at a time.
use Rattle.std.proofs.Common.{◌≡◌, ℕ, ◌+◌, ◌<◌, ◌≤◌, Bool, true, false, cond, eqb, List, [], ◌∷◌, ◌++◌, length, set, take, ap, sym, subst, ◌∙◌, ⊎_elim, arith, ℤ, pos, ◌+ℤ◌}
use Rattle.std.specs.List.{All}
use Rattle.std.proofs.lemmas.Bool.{cases_eq, cases_lt, cond-true, cond-false, eq-eqb, ne_eqb}
use Rattle.std.proofs.lemmas.Int.{ints}
use Rattle.std.proofs.lemmas.List.{get_or-set_same, get_or-set_other, get_or-take, get_or_default, get_or_past, length-take-le}
use Rattle.std.proofs.lemmas.List.Elements.{All-push, All-set}
use Rattle.row_kit.specs.declared.row.Entry.{Entry}
use Rattle.row_kit.specs.declared.row.Row.{Row}
use Rattle.row_kit.specs.Row.{counted, entry_at, row_at, no_row}
use Rattle.row_rooms.specs.declared.rooms.Cell.{Cell}
use Rattle.row_rooms.specs.Rooms.{cell_counted, cells_at, column_at, entries_in, AreColumns}

-- a cell at the end counts beside the others
pushed : (cells : List Cell) (cell : Cell) (row value : ℕ) → cells_at (cells ++ cell ∷ []) row value ≡ cells_at cells row value +ℤ cond (eqb cell.row row) (cell_counted cell value) (pos 0)
pushed [] cell row value = swap (cond (eqb cell.row row) (cell_counted cell value) (pos 0))
  where
    swap : (a : ℤ) → a +ℤ pos 0 ≡ pos 0 +ℤ a
    swap a = omega (arith, ints)
pushed (c ∷ cells) cell row value =
    let rest = pushed cells cell row value in
    regroup (cond (eqb c.row row) (cell_counted c value) (pos 0)) (cells_at (cells ++ cell ∷ []) row value) (cells_at cells row value) (cond (eqb cell.row row) (cell_counted cell value) (pos 0)) rest
  where
    regroup : (a all b c : ℤ) → all ≡ b +ℤ c → a +ℤ all ≡ (a +ℤ b) +ℤ c
    regroup a all b c e = omega (arith, ints)

-- the entry of a row goes into the column of its slot
pub one_entry : (columns : List (List Cell)) (number : ℕ) (e : Entry) (rest : List Entry) (slot row value : ℕ) → e.slot < length columns
    → cells_at (column_at (set columns e.slot (column_at columns e.slot ++ record { row = number; fixed = e.fixed; per = e.per } ∷ [])) slot) row value +ℤ entries_in number rest row slot value
    ≡ cells_at (column_at columns slot) row value +ℤ entries_in number (e ∷ rest) row slot value
one_entry columns number e rest slot row value lt =
    let cell : Cell = record { row = number; fixed = e.fixed; per = e.per } in
    let more = column_at columns e.slot ++ cell ∷ [] in
    let old = cells_at (column_at columns slot) row value in
    let left = entry_at rest slot value in
    ⊎_elim
    (λ (same : e.slot ≡ slot).
    let is : column_at (set columns e.slot more) slot ≡ more = ap (column_at (set columns e.slot more)) (sym same) ∙ get_or-set_same columns e.slot more [] lt in
    let count : cells_at (column_at (set columns e.slot more) slot) row value ≡ cells_at (column_at columns e.slot) row value +ℤ cond (eqb number row) (counted e value) (pos 0) = ap (λ (cs : List Cell). cells_at cs row value) is ∙ pushed (column_at columns e.slot) cell row value in
    let at : cells_at (column_at columns e.slot) row value ≡ old = ap (λ (k : ℕ). cells_at (column_at columns k) row value) same in
    here (eqb number row) (cells_at (column_at (set columns e.slot more) slot) row value) (cells_at (column_at columns e.slot) row value) old (counted e value) (cond (eqb e.slot slot) (counted e value) (pos 0)) left
    count at (cond-true (eqb e.slot slot) (counted e value) (pos 0) (eq-eqb e.slot slot same)))
    (λ (other : e.slot ≡ slot → ⊥).
    let is : column_at (set columns e.slot more) slot ≡ column_at columns slot = get_or-set_other columns e.slot slot more [] (λ at. other (sym at)) in
    elsewhere (eqb number row) (cells_at (column_at (set columns e.slot more) slot) row value) old (cond (eqb e.slot slot) (counted e value) (pos 0)) left
    (ap (λ (cs : List Cell). cells_at cs row value) is) (cond-false (eqb e.slot slot) (counted e value) (pos 0) (ne_eqb e.slot slot other)))
    (cases_eq e.slot slot)
  where
    here : (b : Bool) (new at old part own left : ℤ) → new ≡ at +ℤ cond b part (pos 0) → at ≡ old → own ≡ part → new +ℤ cond b left (pos 0) ≡ old +ℤ cond b (own +ℤ left) (pos 0)
    here true new at old part own left a b c = omega (arith, ints)
    here false new at old part own left a b c = omega (arith, ints)

    elsewhere : (b : Bool) (new old own left : ℤ) → new ≡ old → own ≡ pos 0 → new +ℤ cond b left (pos 0) ≡ old +ℤ cond b (own +ℤ left) (pos 0)
    elsewhere true new old own left a b = omega (arith, ints)
    elsewhere false new old own left a b = omega (arith, ints)

-- and names a row among so many where the row's number is below them
pub one_within : (columns : List (List Cell)) (most slot : ℕ) (cell : Cell) → slot < length columns → cell.row < most → All (All (λ (c : Cell). c.row < most)) columns → All (All (λ (c : Cell). c.row < most)) (set columns slot (column_at columns slot ++ cell ∷ []))
one_within columns most slot cell lt below within =
    All-set (All (λ (c : Cell). c.row < most)) columns slot (column_at columns slot ++ cell ∷ [])
    (All-push (λ (c : Cell). c.row < most) (column_at columns slot) cell (within slot [] lt) below) within

-- one row more
pub one_row : (rows : List Row) (n : ℕ) (columns later : List (List Cell)) → n < length rows → length later ≡ length columns → AreColumns (take n rows) columns
    → ((slot row value : ℕ) → slot < length columns → cells_at (column_at later slot) row value ≡ cells_at (column_at columns slot) row value +ℤ entries_in n (row_at rows n).entries row slot value)
    → (((most : ℕ) → n < most → All (All (λ (cell : Cell). cell.row < most)) columns → All (All (λ (cell : Cell). cell.row < most)) later))
    → AreColumns (take (n + 1) rows) later
one_row rows n columns later lt one are counts within slot at =
    let lt_slot : slot < length columns = omega (arith, one) in
    let before = length-take-le n rows (omega arith) in
    let next : length (take (n + 1) rows) ≡ n + 1 = length-take-le (n + 1) rows (omega arith) in
    record {
      named = subst (λ (m : ℕ). All (λ (cell : Cell). cell.row < m) (column_at later slot)) (sym next)
          (within (n + 1) (omega arith) (λ k d h. subst (All (λ (cell : Cell). cell.row < n + 1)) (get_or_default columns k [] d h) (λ j c in_j. omega (arith, before, (are k h).named j c in_j))) slot [] at);
      counts = λ row value. counts slot row value lt_slot ∙ ap (λ (z : ℤ). z +ℤ entries_in n (row_at rows n).entries row slot value) ((are slot lt_slot).counts row value) ∙ so_far row value;
    }
  where
    so_far : (row value : ℕ) → entry_at (row_at (take n rows) row).entries slot value +ℤ entries_in n (row_at rows n).entries row slot value ≡ entry_at (row_at (take (n + 1) rows) row).entries slot value
    so_far row value =
        let own = entry_at (row_at rows n).entries slot value in
        ⊎_elim
        (λ (here : n ≡ row).
        let none : entry_at (row_at (take n rows) row).entries slot value ≡ pos 0 = ap (λ (r : Row). entry_at r.entries slot value) (get_or_past (take n rows) row no_row (omega (arith, length-take-le n rows (omega arith)))) in
        let is : entry_at (row_at (take (n + 1) rows) row).entries slot value ≡ own = ap (λ (r : Row). entry_at r.entries slot value) (get_or-take (n + 1) rows row no_row (omega arith)) ∙ ap (λ (k : ℕ). entry_at (row_at rows k).entries slot value) (sym here) in
        sums (entry_at (row_at (take n rows) row).entries slot value) (entries_in n (row_at rows n).entries row slot value) (entry_at (row_at (take (n + 1) rows) row).entries slot value) own none
        (cond-true (eqb n row) own (pos 0) (eq-eqb n row here)) is)
        (λ (other : n ≡ row → ⊥).
        let same : entry_at (row_at (take (n + 1) rows) row).entries slot value ≡ entry_at (row_at (take n rows) row).entries slot value = ap (λ (r : Row). entry_at r.entries slot value) (same_row row other) in
        keeps (entry_at (row_at (take n rows) row).entries slot value) (entries_in n (row_at rows n).entries row slot value) (entry_at (row_at (take (n + 1) rows) row).entries slot value)
        (cond-false (eqb n row) own (pos 0) (ne_eqb n row other)) same)
        (cases_eq n row)
      where
        sums : (a b c own : ℤ) → a ≡ pos 0 → b ≡ own → c ≡ own → a +ℤ b ≡ c
        sums a b c own x y z = omega (arith, ints)

        keeps : (a b c : ℤ) → b ≡ pos 0 → c ≡ a → a +ℤ b ≡ c
        keeps a b c x y = omega (arith, ints)

        same_row : (row : ℕ) → (n ≡ row → ⊥) → row_at (take (n + 1) rows) row ≡ row_at (take n rows) row
        same_row row other =
            ⊎_elim
            (λ (low : row < n). get_or-take (n + 1) rows row no_row (omega arith) ∙ sym (get_or-take n rows row no_row low))
            (λ (high : n ≤ row).
            let above : n + 1 ≤ row = omega (arith, other) in
            get_or_past (take (n + 1) rows) row no_row (omega (arith, length-take-le (n + 1) rows (omega arith))) ∙ sym (get_or_past (take n rows) row no_row (omega (arith, length-take-le n rows (omega arith)))))
            (cases_lt row n)
