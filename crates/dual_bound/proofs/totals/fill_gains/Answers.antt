-- The lines count what slots gain: scale times profit, less the rows.
use Rattle.std.proofs.Common.{◌≡◌, ◌∙◌, ◌^◌, ◌<◌, ℕ, ℤ, List, length, ap, pos, ◌+ℤ◌, ◌*ℤ◌, arith}
use Rattle.row_kit.specs.Row.{entry_at}
use Rattle.row_kit.specs.declared.row.Entry.{Entry}
use Rattle.row_kit.specs.declared.row.Row.{Row}
use Rattle.dual_bound.specs.declared.cert.Mult.{Mult}
use Rattle.dual_bound.specs.Line.{line_at, slot_line}
use Rattle.dual_bound.specs.Total.{rows_at}
use Rattle.dual_bound.proofs.Fit.{few_entries}
use Rattle.dual_bound.proofs.LineSums.{all_within_le, combined, no_line, nothing_at}
use Rattle.dual_bound.proofs.Small.{lines_small}
use Rattle.dual_bound.proofs.totals.fill_gains.Goals as goal

pub add_entries-requires-clause-within : goal.add_entries-requires-clause-within
add_entries-requires-clause-within c =
    all_within_le (2 ^ 99) (2 ^ 110) c.turn.new.lines (omega arith) (c.turn.ensures.within (2 ^ 99) c.add_rows.ensures.within)

pub add_entries-requires-clause-few : goal.add_entries-requires-clause-few
add_entries-requires-clause-few c =
    let program = c.args.program.now in
    omega (arith, ap length c.as_slice-3.ensures, few_entries (length program.root) 2000000000000000 program.profit program.profit_bounded, program.few_slots)

pub returns-clause-value : goal.returns-clause-value
returns-clause-value c = λ slot v h.
    let program = c.args.program.now in
    let cert = c.args.cert.now in
    let profit : pos c.from.result *ℤ entry_at c.as_slice-3.result.now slot v ≡ pos cert.scale *ℤ entry_at program.profit slot v =
    ap (λ (n : ℕ). pos n *ℤ entry_at c.as_slice-3.result.now slot v) c.from.ensures ∙ ap (λ (es : List Entry). pos cert.scale *ℤ entry_at es slot v) c.as_slice-3.ensures in
    let rows : rows_at c.as_slice.result.now c.as_slice-2.result.now slot v ≡ rows_at program.rows cert.mults slot v =
    ap (λ (rs : List Row). rows_at rs c.as_slice-2.result.now slot v) c.as_slice.ensures ∙ ap (λ (ms : List Mult). rows_at program.rows ms slot v) c.as_slice-2.ensures in
    let last = c.add_entries.ensures.value slot v h in
    let turned = c.turn.ensures.value slot v (omega (arith, h, c.add_entries.auto.lines)) in
    let first = c.add_rows.ensures.value slot v (omega (arith, h, c.turn.auto.lines, c.add_entries.auto.lines)) in
    let there : slot < length c.args.lines.now = omega (arith, h, c.add_rows.auto.lines, c.turn.auto.lines, c.add_entries.auto.lines) in
    let bare = nothing_at (slot_line c.args.lines.now slot) v (c.requires.bare slot no_line there) in
    combined (line_at (slot_line c.add_entries.new.lines slot) v) (line_at (slot_line c.turn.new.lines slot) v) (line_at (slot_line c.add_rows.new.lines slot) v) (line_at (slot_line c.args.lines.now slot) v) (rows_at program.rows cert.mults slot v) (pos cert.scale *ℤ entry_at program.profit slot v)
    (last ∙ ap (λ (x : ℤ). line_at (slot_line c.turn.new.lines slot) v +ℤ x) profit) turned (first ∙ ap (λ (x : ℤ). line_at (slot_line c.args.lines.now slot) v +ℤ x) rows) bare

pub returns-clause-within : goal.returns-clause-within
returns-clause-within c =
    let lines = c.add_entries.new.lines in
    all_within_le (2 ^ 89) (2 ^ 94) lines (omega arith) (lines_small c.args.program.now c.args.cert.now lines c.requires.usable (returns-clause-value c))
