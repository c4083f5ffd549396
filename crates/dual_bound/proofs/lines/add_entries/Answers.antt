-- One entry more is added to the line of its slot.
use Rattle.std.proofs.Common.{◌≡◌, ◌∙◌, ◌+◌, ◌*◌, ◌^◌, ◌<◌, ℕ, length, get_or, set, subst, arith}
use Rattle.std.specs.List.{All}
use Rattle.std.proofs.lemmas.List.{length-set}
use Rattle.row_kit.proofs.Ascending.{no_entry}
use Rattle.dual_bound.specs.Line.{IsWithin}
use Rattle.dual_bound.proofs.LineSums.{added, within_le, within_set, no_line}
use Rattle.dual_bound.proofs.lines.add_entries.Goals as goal

pub with_entry-requires-clause-within : goal.with_entry-requires-clause-within
with_entry-requires-clause-within c =
    let i = c.loop-entry.entry-index in
    let e = get_or c.args.entries.now i no_entry in
    let lt : e.slot < length c.loop-entry.lines = omega (arith, c.requires.named i no_entry c.loop-entry-test.true, c.loop-entry.auto.lines) in
    within_le (2 ^ 110 + 2 ^ 71 * i) (2 ^ 120) (get_or c.loop-entry.lines e.slot no_line) (c.loop-entry.invariant.within (2 ^ 110) c.requires.within e.slot no_line lt) (omega (arith, c.requires.few, c.loop-entry-test.true))

pub loop-entry-preserved : goal.loop-entry-preserved
loop-entry-preserved c =
    let i = c.loop-entry.entry-index in
    let lines = c.loop-entry.lines in
    let es = c.args.entries.now in
    let e = get_or es i no_entry in
    let r = c.with_entry.result in
    let lt : e.slot < length lines = omega (arith, c.requires.named i no_entry c.loop-entry-test.true, c.loop-entry.auto.lines) in
    record {
      whole = λ slot v h. added lines es c.args.factor i r c.loop-entry-test.true lt c.with_entry.ensures.value slot v ∙ c.loop-entry.invariant.whole slot v (omega (arith, h, length-set lines e.slot r));
      within = λ most h.
          let before = c.loop-entry.invariant.within most h in
          let one = c.with_entry.ensures.within (most + 2 ^ 71 * i) (before e.slot no_line lt) in
          let bound : most + 2 ^ 71 * i + 2 ^ 71 ≡ most + 2 ^ 71 * (i + 1) = omega arith in
          subst (λ (m : ℕ). All (IsWithin m) (set lines e.slot r)) bound (within_set lines e.slot (most + 2 ^ 71 * i) (2 ^ 71) r before one);
    }

pub returns-clause-within : goal.returns-clause-within
returns-clause-within c = λ most h.
    let all : c.loop-entry.entry-index ≡ length c.args.entries.now = omega (arith, c.loop-entry-test.false, c.loop-entry.auto.entry-index-end) in
    subst (λ (n : ℕ). All (IsWithin (most + 2 ^ 71 * n)) c.loop-entry.lines) all (c.loop-entry.invariant.within most h)
