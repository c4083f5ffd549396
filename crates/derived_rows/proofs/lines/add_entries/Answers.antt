-- One entry more is added to the line of its slot.
use Rattle.std.proofs.Common.{◌≡◌, ◌∙◌, ◌+◌, ◌*◌, ◌^◌, ◌<◌, ◌≤◌, ℕ, ◌*ℤ◌, List, length, get_or, set, subst, arith}
use Rattle.std.proofs.lemmas.Int.{ints}
use Rattle.std.specs.List.{All}
use Rattle.std.proofs.lemmas.List.{at_drop_all, length-set}
use Rattle.std.proofs.Math.IntN.{*ℤ-zero}
use Rattle.row_kit.specs.declared.row.Entry.{Entry}
use Rattle.row_kit.specs.Row.{entry_at}
use Rattle.row_kit.proofs.Ascending.{few_entries, no_entry}
use Rattle.derived_rows.specs.Line.{IsWithin}
use Rattle.derived_rows.proofs.LineSums.{added, all_within_le, no_line, within_le, within_set}
use Rattle.derived_rows.proofs.lines.add_entries.Goals as goal

pub with_entry-requires-clause-within : goal.with_entry-requires-clause-within
with_entry-requires-clause-within c =
    let i = c.loop-entry.entry-index in
    let e = get_or c.args.entries.now i no_entry in
    let few : length c.args.entries.now ≤ 4096 = omega (arith, few_entries (length c.args.lines.now) 10000000 c.args.entries.now c.requires.bounded, c.requires.slots) in
    let lt : e.slot < length c.loop-entry.lines = omega (arith, c.requires.bounded.named i no_entry c.loop-entry-test.true, c.loop-entry.auto.lines) in
    within_le (2 ^ 73 + 2 ^ 55 * i) (2 ^ 80) (get_or c.loop-entry.lines e.slot no_line) (c.loop-entry.invariant.within (2 ^ 73) c.requires.within e.slot no_line lt) (omega (arith, few, c.loop-entry-test.true))

pub loop-entry-preserved : goal.loop-entry-preserved
loop-entry-preserved c =
    let i = c.loop-entry.entry-index in
    let lines = c.loop-entry.lines in
    let es = c.args.entries.now in
    let e = get_or es i no_entry in
    let r = c.with_entry.result in
    let lt : e.slot < length lines = omega (arith, c.requires.bounded.named i no_entry c.loop-entry-test.true, c.loop-entry.auto.lines) in
    record {
      whole = λ slot v h. added lines es c.args.factor.now.by i r c.loop-entry-test.true lt c.with_entry.ensures.value slot v ∙ c.loop-entry.invariant.whole slot v (omega (arith, h, length-set lines e.slot r));
      within = λ most h.
          let before = c.loop-entry.invariant.within most h in
          let one = c.with_entry.ensures.within (most + 2 ^ 55 * i) (before e.slot no_line lt) in
          let bound : most + 2 ^ 55 * i + 2 ^ 55 ≡ most + 2 ^ 55 * (i + 1) = omega arith in
          subst (λ (m : ℕ). All (IsWithin m) (set lines e.slot r)) bound (within_set lines e.slot (most + 2 ^ 55 * i) (2 ^ 55) r before one);
    }

pub returns-clause-within : goal.returns-clause-within
returns-clause-within c = λ most h.
    let few = few_entries (length c.args.lines.now) 10000000 c.args.entries.now c.requires.bounded in
    all_within_le (most + 2 ^ 55 * c.loop-entry.entry-index) (most + 2 ^ 67) c.loop-entry.lines (omega (arith, few, c.requires.slots, c.loop-entry.auto.entry-index-end)) (c.loop-entry.invariant.within most h)

pub returns-clause-value : goal.returns-clause-value
returns-clause-value c = λ slot v h.
    let y = c.args.factor.now.by in
    let all = at_drop_all (λ (xs : List Entry). y *ℤ entry_at xs slot v) c.args.entries.now c.loop-entry.entry-index c.loop-entry-test.false in
    omega (arith, ints, c.loop-entry.invariant.whole slot v h, all, *ℤ-zero y)
