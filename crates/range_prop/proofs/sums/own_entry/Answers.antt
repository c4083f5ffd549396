-- The first entry that is the slot's is its only one.
use Rattle.std.proofs.Common.{◌≡◌, ◌∙◌, ℕ, ap, sym, get_or, arith}
use Rattle.row_kit.specs.Row.{entry_at}
use Rattle.row_kit.proofs.Ascending.{no_entry}
use Rattle.row_kit.proofs.Values.{part_at-nothing}
use Rattle.range_prop.proofs.Entries.{alone, own_alone, own_without}
use Rattle.range_prop.proofs.sums.own_entry.Goals as goal

pub returns-then-entry-slot-clause-value : goal.returns-then-entry-slot-clause-value
returns-then-entry-slot-clause-value c = λ v.
    let es = c.args.entries.now in
    let k = c.loop-entry.entry-index in
    let here : (get_or es k no_entry).slot ≡ c.args.slot = c.if-entry-slot.true in
    ap (λ (s : ℕ). entry_at es s v) (sym here) ∙ own_alone es k v c.loop-entry-test.true (alone es c.requires.ascending k c.loop-entry-test.true)

pub returns-clause-value : goal.returns-clause-value
returns-clause-value c = λ v.
    let es = c.args.entries.now in
    own_without es c.args.slot v (λ j lt. c.loop-entry.invariant j (omega (arith, lt, c.loop-entry-test.false))) ∙ sym (part_at-nothing v)
