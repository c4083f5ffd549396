-- One row more is added.
use Rattle.std.proofs.Common.{◌≡◌, ◌∙◌, ◌+◌, ◌*◌, ◌^◌, ◌<◌, ℕ, List, [], length, get_or, ap, subst, pos, ◌+ℤ◌, ◌*ℤ◌, arith}
use Rattle.std.specs.List.{All}
use Rattle.std.proofs.lemmas.Int.{ints}
use Rattle.std.proofs.lemmas.List.{get_or_read, at_drop_more}
use Rattle.row_kit.specs.Row.{entry_at, row_at}
use Rattle.row_kit.specs.declared.row.Row.{Row}
use Rattle.derived_rows.specs.declared.derived.Factor.{Factor}
use Rattle.derived_rows.specs.Derived.{mixed_at}
use Rattle.derived_rows.specs.Line.{line_at, slot_line, IsWithin}
use Rattle.derived_rows.proofs.LineSums.{all_within_le}
use Rattle.derived_rows.proofs.lines.add_rows.Goals as goal

abbrev no_factor : Factor
no_factor = record { row = 0; by = pos 0 }

pub add_row-requires-clause-within : goal.add_row-requires-clause-within
add_row-requires-clause-within c =
    all_within_le (2 ^ 67 * c.loop-factor.factor-index) (2 ^ 73) c.loop-factor.lines (omega (arith, c.requires.few, c.loop-factor-test.true)) c.loop-factor.invariant.within

pub loop-factor-preserved : goal.loop-factor-preserved
loop-factor-preserved c =
    let i = c.loop-factor.factor-index in
    let rows = c.args.rows.now in
    let factors = c.args.factors.now in
    let lines = c.loop-factor.lines in
    let lt : i < length factors = c.loop-factor-test.true in
    let f = get_or factors i no_factor in
    let row = c.index-rows-factor.result in
    let is_row : row ≡ row_at rows f.row = get_or_read rows f.row row (c.requires.small i no_factor lt).row c.index-rows-factor.is (record { entries = []; limit = pos 0 }) in
    record {
      whole = λ slot v h.
          let one = c.add_row.ensures.value slot v h ∙ ap (λ (r : Row). line_at (slot_line lines slot) v +ℤ (f.by *ℤ entry_at r.entries slot v)) is_row in
          let more = at_drop_more (λ (fs : List Factor). mixed_at rows fs slot v) factors i no_factor lt in
          let before = c.loop-factor.invariant.whole slot v (omega (arith, h, c.add_row.auto.lines)) in
          omega (arith, ints, one, more, before);
      within =
          let bound : 2 ^ 67 * i + 2 ^ 67 ≡ 2 ^ 67 * (i + 1) = omega arith in
          subst (λ (n : ℕ). All (IsWithin n) c.add_row.new.lines) bound (c.add_row.ensures.within (2 ^ 67 * i) c.loop-factor.invariant.within);
    }
