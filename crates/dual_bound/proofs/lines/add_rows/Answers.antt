-- One row more is added.
use Rattle.std.proofs.Common.{◌≡◌, ◌∙◌, ◌+◌, ◌*◌, ◌^◌, ◌<◌, ℕ, List, [], length, get_or, drop, ap, subst, pos, ◌+ℤ◌, ◌*ℤ◌, arith}
use Rattle.std.specs.List.{All}
use Rattle.std.proofs.lemmas.List.{get_or_read, at_drop_more}
use Rattle.row_kit.specs.Row.{entry_at, row_at}
use Rattle.row_kit.specs.declared.row.Row.{Row}
use Rattle.dual_bound.specs.declared.cert.Mult.{Mult}
use Rattle.dual_bound.specs.Line.{line_at, slot_line, IsWithin}
use Rattle.dual_bound.specs.Total.{rows_at}
use Rattle.dual_bound.proofs.LineSums.{row_moved}
use Rattle.dual_bound.proofs.lines.add_rows.Goals as goal

abbrev no_mult : Mult
no_mult = record { row = 0; factor = 0 }

pub loop-mult-preserved : goal.loop-mult-preserved
loop-mult-preserved c =
    let i = c.loop-mult.mult-index in
    let rows = c.args.rows.now in
    let mults = c.args.mults.now in
    let lines = c.loop-mult.lines in
    let lt : i < length mults = c.loop-mult-test.true in
    let m = get_or mults i no_mult in
    let row = c.index-rows-mult.result in
    let is_row : row ≡ row_at rows m.row = get_or_read rows m.row row (c.requires.fit i no_mult lt).row c.index-rows-mult.is (record { entries = []; limit = pos 0 }) in
    record {
      whole = λ slot v h.
          let one = c.add_row.ensures.value slot v h ∙ ap (λ (r : Row). line_at (slot_line lines slot) v +ℤ (pos m.factor *ℤ entry_at r.entries slot v)) is_row in
          let more = at_drop_more (λ (ms : List Mult). rows_at rows ms slot v) mults i no_mult lt in
          let before = c.loop-mult.invariant.whole slot v (omega (arith, h, c.add_row.auto.lines)) in
          row_moved (line_at (slot_line c.add_row.new.lines slot) v) (rows_at rows (drop (i + 1) mults) slot v) (line_at (slot_line lines slot) v) (pos m.factor *ℤ entry_at (row_at rows m.row).entries slot v) (rows_at rows (drop i mults) slot v) _ one more before;
      within =
          let bound : 2 ^ 83 * i + 2 ^ 83 ≡ 2 ^ 83 * (i + 1) = omega arith in
          subst (λ (n : ℕ). All (IsWithin n) c.add_row.new.lines) bound (c.add_row.ensures.within (2 ^ 83 * i) c.loop-mult.invariant.within);
    }
