-- One entry more is moved.
use Rattle.std.proofs.Common.{◌≡◌, ◌∙◌, ◌+◌, ◌*◌, ◌<◌, ◌≤◌, ◌^◌, ℕ, List, length, get_or, set, sym, ap, subst, ℤ, pos, ◌+ℤ◌, ◌-ℤ◌, ◌*ℤ◌, arith}
use Rattle.std.specs.List.{All}
use Rattle.std.proofs.lemmas.Int.{ints}
use Rattle.std.proofs.lemmas.List.{at_drop_all, get_or_read, length-set}
use Rattle.row_kit.specs.Area.{present}
use Rattle.row_kit.specs.declared.domain.Domain.{Domain}
use Rattle.row_kit.specs.declared.row.Entry.{Entry}
use Rattle.row_kit.specs.Domain.{domain_at, values_of}
use Rattle.row_kit.specs.Row.{counted, entry_at}
use Rattle.row_kit.proofs.Ascending.{no_entry}
use Rattle.dual_bound.specs.declared.line.Line.{Line}
use Rattle.dual_bound.specs.Line.{line_at, slot_line, IsWithin}
use Rattle.dual_bound.specs.Total.{greatest}
use Rattle.dual_bound.proofs.Fit.{few_entries}
use Rattle.dual_bound.proofs.LineSums.{no_line, within_le, within_set}
use Rattle.dual_climb.specs.laws.Held.{AreMost}
use Rattle.dual_climb.proofs.Gained.{exact_most, most_set, moved_more}
use Rattle.dual_climb.proofs.gains.move_gains.Goals as goal

pub loop-entry-init : goal.loop-entry-init
loop-entry-init c =
    let row = c.args.row.now in
    let few : length c.as_slice-entry-items.result.now ≤ 4096 = omega (arith, ap length c.as_slice-entry-items.ensures, few_entries (length (present c.args.area.now)) 10000000 row.entries c.requires.along.bounded.entries, c.requires.along.few) in
    record {
      items = c.as_slice-entry-items.ensures;
      few = few;
      slots = c.requires.slots;
      within = c.requires.along.within;
      most = c.requires.most;
      whole = λ slot v h.
          ap (λ (es : List Entry). (line_at (slot_line c.args.gains.now.lines.items slot) v +ℤ (pos c.args.own *ℤ entry_at es slot v)) -ℤ (pos c.args.factor *ℤ entry_at es slot v)) c.as_slice-entry-items.ensures;
    }

pub with_other-line-requires-clause-within : goal.with_other-line-requires-clause-within
with_other-line-requires-clause-within c =
    let i = c.loop-entry.entry-index in
    let lines = c.loop-entry.gains.lines.items in
    let inv = c.loop-entry.invariant in
    let e = get_or c.as_slice-entry-items.result.now i no_entry in
    let in_row : i < length c.args.row.now.entries = omega (arith, ap length inv.items, c.loop-entry-test.true) in
    let named : e.slot < length (present c.args.area.now) =
    subst (λ (es : List Entry). (get_or es i no_entry).slot < length (present c.args.area.now)) (sym inv.items) (c.requires.along.bounded.entries.named i no_entry in_row) in
    let lt : e.slot < length lines = omega (arith, named, inv.slots) in
    let read : c.index.result.now ≡ slot_line lines e.slot = get_or_read lines e.slot c.index.result.now lt c.index.ensures no_line in
    within_le (2 ^ 93 + 2 ^ 72 * i) (2 ^ 93 + 2 ^ 84) c.index.result.now
    (subst (IsWithin (2 ^ 93 + 2 ^ 72 * i)) (sym read) (inv.within e.slot no_line lt)) (omega (arith, inv.few, c.loop-entry-test.true))

pub greatest_in-requires-clause-within : goal.greatest_in-requires-clause-within
greatest_in-requires-clause-within c =
    let i = c.loop-entry.entry-index in
    let lines = c.loop-entry.gains.lines.items in
    let inv = c.loop-entry.invariant in
    let e = get_or c.as_slice-entry-items.result.now i no_entry in
    let in_row : i < length c.args.row.now.entries = omega (arith, ap length inv.items, c.loop-entry-test.true) in
    let named : e.slot < length (present c.args.area.now) =
    subst (λ (es : List Entry). (get_or es i no_entry).slot < length (present c.args.area.now)) (sym inv.items) (c.requires.along.bounded.entries.named i no_entry in_row) in
    let lt : e.slot < length lines = omega (arith, named, inv.slots) in
    let read : c.index.result.now ≡ slot_line lines e.slot = get_or_read lines e.slot c.index.result.now lt c.index.ensures no_line in
    within_le (2 ^ 93 + 2 ^ 72 * i + 2 ^ 72) (2 ^ 94) c.with_other-line.result
    (c.with_other-line.ensures.within (2 ^ 93 + 2 ^ 72 * i) (subst (IsWithin (2 ^ 93 + 2 ^ 72 * i)) (sym read) (inv.within e.slot no_line lt))) (omega (arith, inv.few, c.loop-entry-test.true))

pub loop-entry-preserved : goal.loop-entry-preserved
loop-entry-preserved c =
    let i = c.loop-entry.entry-index in
    let es = c.as_slice-entry-items.result.now in
    let ds = present c.args.area.now in
    let lines = c.loop-entry.gains.lines.items in
    let most = c.loop-entry.gains.most.items in
    let inv = c.loop-entry.invariant in
    let e = get_or es i no_entry in
    let line = c.with_other-line.result in
    let g = c.greatest_in.result in
    let in_row : i < length c.args.row.now.entries = omega (arith, ap length inv.items, c.loop-entry-test.true) in
    let named : e.slot < length ds = subst (λ (xs : List Entry). (get_or xs i no_entry).slot < length ds) (sym inv.items) (c.requires.along.bounded.entries.named i no_entry in_row) in
    let is : g ≡ greatest (line_at line) (values_of (domain_at ds e.slot)) =
    c.greatest_in.ensures.value ∙ ap (λ (d : Domain). greatest (line_at line) (values_of d)) c.domain.ensures.value in
    let bound : 2 ^ 93 + 2 ^ 72 * i + 2 ^ 72 ≡ 2 ^ 93 + 2 ^ 72 * (i + 1) = omega arith in
    let lt : e.slot < length lines = omega (arith, named, inv.slots) in
    let read : c.index.result.now ≡ slot_line lines e.slot = get_or_read lines e.slot c.index.result.now lt c.index.ensures no_line in
    let one = c.with_other-line.ensures.within (2 ^ 93 + 2 ^ 72 * i) (subst (IsWithin (2 ^ 93 + 2 ^ 72 * i)) (sym read) (inv.within e.slot no_line lt)) in
    record {
      items = inv.items;
      few = inv.few;
      slots = length-set lines e.slot line ∙ inv.slots;
      within = subst (λ (m : ℕ). All (IsWithin m) (set lines e.slot line)) bound (within_set lines e.slot (2 ^ 93 + 2 ^ 72 * i) (2 ^ 72) line inv.within one);
      most = subst (λ (x : ℤ). AreMost ds (set lines e.slot line) (set most e.slot x)) (sym (exact_most g c.greatest_in.ensures.small)) (most_set ds lines most e.slot line g inv.most named inv.slots is c.greatest_in.ensures.small);
      whole = λ slot v h. moved_more lines es c.args.own c.args.factor i line c.loop-entry-test.true lt (λ w. c.with_other-line.ensures.value w ∙ ap (λ (l : Line). (line_at l w +ℤ (pos c.args.own *ℤ counted e w)) -ℤ (pos c.args.factor *ℤ counted e w)) read) slot v ∙ inv.whole slot v h;
    }

nothing_left : (l x w : ℤ) (a b : ℕ) → x ≡ pos 0 → (l +ℤ (pos a *ℤ x)) -ℤ (pos b *ℤ x) ≡ w → l ≡ w
nothing_left l x w a b e h = plain l w a b (ap (λ (z : ℤ). (l +ℤ (pos a *ℤ z)) -ℤ (pos b *ℤ z)) (sym e) ∙ h)
  where
    plain : (l w : ℤ) (a b : ℕ) → (l +ℤ (pos a *ℤ pos 0)) -ℤ (pos b *ℤ pos 0) ≡ w → l ≡ w
    plain l w a b h = omega (arith, ints)

pub returns-clause-value : goal.returns-clause-value
returns-clause-value c = λ slot v h.
    let es = c.as_slice-entry-items.result.now in
    let end = at_drop_all (λ (xs : List Entry). entry_at xs slot v) es c.loop-entry.entry-index c.loop-entry-test.false in
    nothing_left (line_at (slot_line c.loop-entry.gains.lines.items slot) v) _ _ c.args.own c.args.factor end (c.loop-entry.invariant.whole slot v h)
