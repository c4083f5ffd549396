-- One row more is listed.
use Rattle.std.proofs.Common.{◌≡◌, ◌∙◌, ◌⊎◌, ◌<◌, ℕ, List, length, ap, subst, arith}
use Rattle.std.specs.List.{Contains}
use Rattle.std.proofs.lemmas.List.{get_or_read}
use Rattle.row_kit.specs.declared.row.Entry.{Entry}
use Rattle.row_kit.specs.declared.row.Row.{Row}
use Rattle.row_kit.specs.Row.{no_row, row_at}
use Rattle.range_prop.specs.Index.{AreListed, HasEntry, list_of}
use Rattle.range_prop.proofs.Listed.{rows_more}
use Rattle.range_prop.proofs.index.RowIndex.new.Goals as goal

pub loop-number-preserved : goal.loop-number-preserved
loop-number-preserved c =
    let rows = c.args.program.now.rows in
    let n = c.loop-number.number in
    let lt : n < length rows = omega (arith, c.loop-number-test.true, c.len-number-end.ensures) in
    let row : c.get-row.result.now ≡ row_at rows n = get_or_read rows n c.get-row.result.now lt c.get-row.ensures no_row in
    let entries = c.as_slice.ensures ∙ ap (λ (r : Row). r.entries) row in
    let lists = c.loop-number.slots.items in
    let new' = c.list_row.new.lists.items in
    record {
      count = c.list_row.ensures.length ∙ c.loop-number.invariant.count;
      listed = rows_more rows n lists new' c.loop-number.invariant.listed (λ slot x.
          subst (λ (es : List Entry). (Contains (list_of new' slot) x → Contains (list_of lists slot) x ⊎ ((x ≡ n) × HasEntry es slot)) × (Contains (list_of lists slot) x ⊎ ((x ≡ n) × HasEntry es slot) → Contains (list_of new' slot) x)) entries
          (c.in_ok-list_row.ensures.listed slot x));
    }

pub returns-clause-rows : goal.returns-clause-rows
returns-clause-rows c =
    subst (λ (n : ℕ). AreListed c.args.program.now.rows n c.loop-number.slots.items) (let all : c.loop-number.number ≡ length c.args.program.now.rows = omega (arith, c.loop-number-test.false, c.loop-number.auto.number-end, c.len-number-end.ensures) in all) c.loop-number.invariant.listed
