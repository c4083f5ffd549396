-- The lines count nothing at first.
use Rattle.std.proofs.Common.{◌≡◌, ◌∙◌, ◌<◌, ◌+◌, ◌^◌, List, length, drop, pos, ◌*ℤ◌, sym, ap, subst, arith}
use Rattle.std.specs.List.{All}
use Rattle.std.proofs.lemmas.Int.{ints}
use Rattle.std.proofs.lemmas.List.{take_at}
use Rattle.std.proofs.Math.IntN.{suc_ℤ-*ℤ, zero-*ℤ}
use Rattle.row_kit.specs.Row.{entry_at}
use Rattle.derived_rows.specs.declared.line.Line.{Line}
use Rattle.derived_rows.specs.Line.{IsWithin, line_at, slot_line}
use Rattle.derived_rows.proofs.LineSums.{all_within_le, bare_at, bare_within}
use Rattle.derived_rows.proofs.lines.entry_lines.Goals as goal

pub returns-clause-value : goal.returns-clause-value
returns-clause-value c = λ slot v h.
    let new' = c.add_entries.new.lines in
    let rest = drop (length new') c.in_ok-lines.lines.items in
    let whole = take_at new' rest c.in_ok-lines.lines.len (omega (arith, c.add_entries.auto.lines, c.deref_mut.ensures.len)) in
    let bare = ap (λ (ls : List Line). line_at (slot_line ls slot) v) (c.deref_mut.ensures.value ∙ c.in_ok-lines.ensures.items) ∙ bare_at c.args.slots slot v in
    let x = entry_at c.args.entries.now slot v in
    let one : pos 1 *ℤ x ≡ x = omega (arith, ints, suc_ℤ-*ℤ (pos 0) x, zero-*ℤ x) in
    let there : slot < length new' = omega (arith, h, c.add_entries.auto.lines, c.deref_mut.ensures.len, c.in_ok-lines.ensures.length) in
    ap (λ (ls : List Line). line_at (slot_line ls slot) v) (c.from_vec.ensures ∙ whole) ∙ c.add_entries.ensures.value slot v there ∙ omega (arith, ints, bare, one)

pub returns-clause-within : goal.returns-clause-within
returns-clause-within c =
    let new' = c.add_entries.new.lines in
    let rest = drop (length new') c.in_ok-lines.lines.items in
    let whole = take_at new' rest c.in_ok-lines.lines.len (omega (arith, c.add_entries.auto.lines, c.deref_mut.ensures.len)) in
    let bare = subst (All (IsWithin 0)) (sym (c.deref_mut.ensures.value ∙ c.in_ok-lines.ensures.items)) (bare_within c.args.slots) in
    subst (All (IsWithin (2 ^ 73))) (sym (c.from_vec.ensures ∙ whole)) (all_within_le (0 + 2 ^ 67) (2 ^ 73) new' (omega arith) (c.add_entries.ensures.within 0 bare))
