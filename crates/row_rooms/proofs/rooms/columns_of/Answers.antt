-- One row more is in the columns.
use Rattle.std.proofs.Common.{◌≡◌, ◌∙◌, ◌<◌, List, length, ap, subst, arith, ◌+ℤ◌}
use Rattle.std.proofs.lemmas.List.{get_or_read, take_all}
use Rattle.row_kit.specs.declared.row.Entry.{Entry}
use Rattle.row_kit.specs.declared.row.Row.{Row}
use Rattle.row_kit.specs.Row.{no_row, row_at}
use Rattle.row_rooms.specs.Rooms.{AreColumns, cells_at, column_at, entries_in}
use Rattle.row_rooms.proofs.Columns.{one_row}
use Rattle.row_rooms.proofs.rooms.columns_of.Goals as goal

pub loop-number-preserved : goal.loop-number-preserved
loop-number-preserved c =
    let rows = c.args.program.now.rows in
    let n = c.loop-number.number in
    let lt : n < length rows = omega (arith, c.loop-number-test.true, c.len-number-end.ensures) in
    let row : c.get-row.result.now ≡ row_at rows n = get_or_read rows n c.get-row.result.now lt c.get-row.ensures no_row in
    let entries = c.as_slice-in-loop-number.ensures ∙ ap (λ (r : Row). r.entries) row in
    let columns = c.loop-number.columns.items in
    let later = c.put_row.new.columns.items in
    let put = c.in_ok-put_row.ensures in
    record {
      as_many = put.length ∙ c.loop-number.invariant.as_many;
      columns = one_row rows n columns later lt put.length c.loop-number.invariant.columns
          (λ slot row value h. put.counts slot row value h ∙ ap (λ (es : List Entry). cells_at (column_at columns slot) row value +ℤ entries_in n es row slot value) entries)
          put.within;
    }

pub returns-clause-columns : goal.returns-clause-columns
returns-clause-columns c =
    let rows = c.args.program.now.rows in
    subst (λ (rs : List Row). AreColumns rs c.loop-number.columns.items) (take_all c.loop-number.number rows (omega (arith, c.loop-number-test.false, c.len-number-end.ensures))) c.loop-number.invariant.columns
