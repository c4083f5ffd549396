-- One entry more is added.
use Rattle.std.proofs.Common.{◌≡◌, ◌∙◌, ◌+◌, ◌^◌, ◌<◌, ℕ, List, length, get_or, drop, ap, sym, subst, ℤ, pos, ◌+ℤ◌, ◌-ℤ◌, ◌*ℤ◌, to_z, of_z, arith}
use Rattle.std.proofs.lemmas.Int.{ints}
use Rattle.std.proofs.lemmas.List.{at_drop_more, get_or_read}
use Rattle.row_kit.specs.Area.{present}
use Rattle.row_kit.specs.declared.domain.Domain.{Domain}
use Rattle.row_kit.specs.declared.row.Entry.{Entry}
use Rattle.row_kit.specs.Domain.{domain_at, values_of}
use Rattle.row_kit.specs.Row.{counted}
use Rattle.row_kit.proofs.Ascending.{no_entry}
use Rattle.dual_bound.specs.declared.line.Line.{Line}
use Rattle.dual_bound.specs.Line.{line_at, slot_line, IsWithin}
use Rattle.dual_bound.specs.Total.{greatest}
use Rattle.dual_bound.proofs.Fit.{few_entries}
use Rattle.dual_bound.proofs.Greatest.{greatest_same}
use Rattle.dual_bound.proofs.LineSums.{no_line, within_le}
use Rattle.dual_climb.specs.laws.Along.{entries_part, freed}
use Rattle.dual_climb.proofs.along.fall_to.Goals as goal
use mir.Syntax.{w128}

started : (s a b oa ob po pf qo qf : ℤ) → s ≡ a -ℤ b → a ≡ oa → b ≡ ob → po ≡ qo → pf ≡ qf → s +ℤ (po -ℤ pf) ≡ (oa +ℤ qo) -ℤ (ob +ℤ qf)
started s a b oa ob po pf qo qf p q r t u = omega (arith, ints)

pub loop-entry-init : goal.loop-entry-init
loop-entry-init c =
    let row = c.args.row.now in
    let ds = present c.args.area.now in
    let part = entries_part (freed c.args.gains.now.lines.items c.args.own) ds in
    let a = c.scaled_limit.result in
    let b = c.scaled_limit-2.result in
    let exact : to_z w128 (of_z w128 (to_z w128 (of_z w128 a) -ℤ to_z w128 (of_z w128 b))) ≡ a -ℤ b = omega (arith, ints, c.scaled_limit.ensures.small, c.scaled_limit-2.ensures.small) in
    record {
      items = c.as_slice-entry-items.ensures;
      few = omega (arith, ap length c.as_slice-entry-items.ensures, few_entries (length ds) 10000000 row.entries c.requires.along.bounded.entries, c.requires.along.few);
      whole = started _ a b (pos c.args.own *ℤ row.limit) (pos c.args.factor *ℤ row.limit) (part c.as_slice-entry-items.result.now c.args.own) (part c.as_slice-entry-items.result.now c.args.factor) (part row.entries c.args.own) (part row.entries c.args.factor)
          exact c.scaled_limit.ensures.value c.scaled_limit-2.ensures.value
          (ap (λ (es : List Entry). part es c.args.own) c.as_slice-entry-items.ensures) (ap (λ (es : List Entry). part es c.args.factor) c.as_slice-entry-items.ensures);
      small = omega (arith, ints, c.scaled_limit.ensures.small, c.scaled_limit-2.ensures.small);
    }

pub fall_at-sum-requires-clause-within : goal.fall_at-sum-requires-clause-within
fall_at-sum-requires-clause-within c =
    let i = c.loop-entry.entry-index in
    let e = get_or c.as_slice-entry-items.result.now i no_entry in
    let in_row : i < length c.args.row.now.entries = omega (arith, ap length c.loop-entry.invariant.items, c.loop-entry-test.true) in
    let named : e.slot < length (present c.args.area.now) =
    subst (λ (es : List Entry). (get_or es i no_entry).slot < length (present c.args.area.now)) (sym c.loop-entry.invariant.items) (c.requires.along.bounded.entries.named i no_entry in_row) in
    let lines = c.args.gains.now.lines.items in
    let lt : e.slot < length lines = omega (arith, named, c.requires.along.slots) in
    let read : c.index.result.now ≡ slot_line lines e.slot = get_or_read lines e.slot c.index.result.now lt c.index.ensures no_line in
    within_le (2 ^ 93 + 2 ^ 72) (2 ^ 94) c.with_other-line.result
    (c.with_other-line.ensures.within (2 ^ 93) (subst (IsWithin (2 ^ 93)) (sym read) (c.requires.along.within e.slot no_line lt))) (omega arith)

pub overflow_add-sum : goal.overflow_add-sum
overflow_add-sum c = omega (arith, ints, c.loop-entry.invariant.small, c.loop-entry.invariant.few, c.loop-entry-test.true, c.fall_at-sum.ensures.small)

back : (l o : ℤ) → l ≡ (l +ℤ o) -ℤ o
back l o = omega (arith, ints)

moved : (n s g ao af po pf qo qf w : ℤ) → n ≡ s +ℤ g → g ≡ ao -ℤ af → po ≡ ao +ℤ qo → pf ≡ af +ℤ qf → s +ℤ (po -ℤ pf) ≡ w → n +ℤ (qo -ℤ qf) ≡ w
moved n s g ao af po pf qo qf w p q r t u = omega (arith, ints)

fallen : (g m f a b : ℤ) → g ≡ m -ℤ f → m ≡ a → f ≡ b → g ≡ a -ℤ b
fallen g m f a b p q r = omega (arith, ints)

pub loop-entry-preserved : goal.loop-entry-preserved
loop-entry-preserved c =
    let i = c.loop-entry.entry-index in
    let es = c.as_slice-entry-items.result.now in
    let ds = present c.args.area.now in
    let lines = c.args.gains.now.lines.items in
    let own = c.args.own in
    let factor = c.args.factor in
    let e = get_or es i no_entry in
    let vs = values_of (domain_at ds e.slot) in
    let part = λ (f : ℕ) (xs : List Entry). entries_part (freed lines own) ds xs f in
    let at = λ (f : ℕ). greatest (λ v. freed lines own e v -ℤ (pos f *ℤ counted e v)) vs in
    let g = c.fall_at-sum.result in
    let in_row : i < length c.args.row.now.entries = omega (arith, ap length c.loop-entry.invariant.items, c.loop-entry-test.true) in
    let named : e.slot < length ds =
    subst (λ (xs : List Entry). (get_or xs i no_entry).slot < length ds) (sym c.loop-entry.invariant.items) (c.requires.along.bounded.entries.named i no_entry in_row) in
    let exact : to_z w128 (of_z w128 (to_z w128 c.loop-entry.sum-bits +ℤ to_z w128 (of_z w128 g))) ≡ to_z w128 c.loop-entry.sum-bits +ℤ g =
    omega (arith, ints, c.loop-entry.invariant.small, c.loop-entry.invariant.few, c.fall_at-sum.ensures.small, c.loop-entry-test.true) in
    let read : c.index.result.now ≡ slot_line lines e.slot = get_or_read lines e.slot c.index.result.now (omega (arith, named, c.requires.along.slots)) c.index.ensures no_line in
    let most : c.index-in-loop-entry.result.now ≡ at own =
    get_or_read c.args.gains.now.most.items e.slot c.index-in-loop-entry.result.now (omega (arith, named, c.requires.most.slots)) c.index-in-loop-entry.ensures (pos 0)
    ∙ c.requires.most.each e.slot named
    ∙ greatest_same (line_at (slot_line lines e.slot)) (λ v. freed lines own e v -ℤ (pos own *ℤ counted e v)) (λ v. back (line_at (slot_line lines e.slot) v) (pos own *ℤ counted e v)) vs in
    let new : greatest (line_at c.with_other-line.result) (values_of c.domain.result) ≡ at factor =
    ap (λ (d : Domain). greatest (line_at c.with_other-line.result) (values_of d)) c.domain.ensures.value
    ∙ greatest_same (line_at c.with_other-line.result) (λ v. freed lines own e v -ℤ (pos factor *ℤ counted e v)) (λ v. c.with_other-line.ensures.value v ∙ ap (λ (l : Line). (line_at l v +ℤ (pos own *ℤ counted e v)) -ℤ (pos factor *ℤ counted e v)) read) vs in
    let one : g ≡ at own -ℤ at factor = fallen g _ _ (at own) (at factor) c.fall_at-sum.ensures.value most new in
    let more = at_drop_more (part own) es i no_entry c.loop-entry-test.true in
    let less = at_drop_more (part factor) es i no_entry c.loop-entry-test.true in
    record {
      items = c.loop-entry.invariant.items;
      few = c.loop-entry.invariant.few;
      whole = moved _ (to_z w128 c.loop-entry.sum-bits) g (at own) (at factor) (part own (drop i es)) (part factor (drop i es)) (part own (drop (i + 1) es)) (part factor (drop (i + 1) es)) _ exact one more less c.loop-entry.invariant.whole;
      small = omega (arith, ints, exact, c.loop-entry.invariant.small, c.fall_at-sum.ensures.small);
    }
